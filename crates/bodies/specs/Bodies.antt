-- What is told of a search for a body that begins at a place: that it finds none, or where it finds a brace.
use Rattle.std.specs.Prelude.{ℕ, ◌≤◌, ◌<◌, ◌≡◌, List, length, get_or, drop}
use Rattle.std.proofs.Math.Option.{none, some}
use Rattle.source_rules.specs.Finding.{body_at}
use Rattle.bodies.specs.declared.Sought.{Sought}
use Rattle.bodies.specs.declared.Sought.TheVariants.{Brace, Nothing, Unknown}

-- some places of a text, in rising order
pub record Rising (s starts : List ℕ) (many : ℕ) : Type 0 where
  pub rising : (j k : ℕ) → j < k → k < many → get_or starts j 0 < get_or starts k 0
  pub inside : (k : ℕ) → k < many → get_or starts k 0 ≤ length s

-- a search of which it is told finds no body, or finds the brace at the place that is told
pub record Finds (s starts : List ℕ) (many : ℕ) (told : List Sought) : Type 0 where
  pub none-there : (k : ℕ) → k < many → get_or told k Unknown ≡ Nothing → body_at 0 0 0 (get_or starts k 0) (drop (get_or starts k 0) s) ≡ none
  pub brace-there : (k p : ℕ) → k < many → get_or told k Unknown ≡ Brace p → body_at 0 0 0 (get_or starts k 0) (drop (get_or starts k 0) s) ≡ some p
