-- A place as the code tells it, what a search meets on its way, and where a byte stands no more.
use Rattle.std.specs.Prelude.{ℕ, ◌≤◌, ◌≡◌, ◌≢◌, List, drop, get_or, Option, None, Some}
use Rattle.std.proofs.Math.Option.{Option as MathOption, none, some}
use Rattle.std.proofs.Props.{props}
use Rattle.source_rules.specs.Brackets.{partner}
use Rattle.search.specs.declared.Met.{Met}
use Rattle.search.specs.declared.Met.TheVariants.{Partner, Depth}

-- the library's option as that of the definitions
abbrev pub place_of : Option ℕ → MathOption ℕ
place_of (Some n) = some n
place_of None = none

-- no byte x stands from a place on
unfoldable pub Absent : ℕ → List ℕ → ℕ → Type 0
Absent x s from = (k : ℕ) → from ≤ k → get_or s k 0 ≢ x

-- it has one proof at most
pub absent_prop : (x : ℕ) (s : List ℕ) (from : ℕ) → IsProp (Absent x s from)
unfolding Absent
absent_prop x s from = hlevel props

-- what a search for a partner meets: the partner, or a depth with which it goes on
abbrev pub Meets : List ℕ → (opening closing from to depth : ℕ) → Met → Type 0
Meets s opening closing from to depth (Partner p) = partner opening closing depth from (drop from s) ≡ some p
Meets s opening closing from to depth (Depth d) = (partner opening closing depth from (drop from s) ≡ partner opening closing d to (drop to s)) × (d ≤ to)
