-- Look-up by halves in a baseline whose keys never fall: what its parts tell.
use Rattle.std.specs.Prelude.{ℕ, ◌≡◌, Bool, true, false, List, ◌++◌, map, drop, Option, Some, None}
use Rattle.std.proofs.Math.Option.{Option as MathOption, none, some}
use Rattle.text_rules.specs.Bytes.{All, before}
use Rattle.gate_rules.specs.Baseline.{Entry, entries_of_lines, entry_key}
use Rattle.baseline.specs.Reads.{key_of_entry}
use Rattle.baseline.specs.Steps.{entry_list}
use Rattle.baseline.specs.declared.Recorded.{Recorded}

-- between two places stand whole lines
pub record Between (s : List ℕ) (from at : ℕ) : Type 0 where
  pub passed : List Entry
  pub cut : entries_of_lines (drop from s) ≡ passed ++ entries_of_lines (drop at s)

-- from a place up to the next there is at most one entry, with this key
pub record Leads (s : List ℕ) (from : ℕ) (key : MathOption (List ℕ)) (next : ℕ) : Type 0 where
  pub entry : MathOption Entry
  pub cut : entries_of_lines (drop from s) ≡ entry_list entry ++ entries_of_lines (drop next s)
  pub key-is : key ≡ key_of_entry entry

-- every key in front of a place stands before k
pub record Below (s k : List ℕ) (at : ℕ) : Type 0 where
  pub passed : List Entry
  pub cut : entries_of_lines s ≡ passed ++ entries_of_lines (drop at s)
  pub all-before : All (λ j. before j k ≡ true) (map entry_key passed)

-- the key of a line, where there is one, stands before k, or behind it
abbrev pub below : MathOption (List ℕ) → List ℕ → Bool
below none k = false
below (some j) k = before j k

abbrev pub beyond : MathOption (List ℕ) → List ℕ → Bool
beyond none k = false
beyond (some j) k = before k j

-- from a place up to the next there is one entry, and its key stands before k
pub record LeadsBelow (s : List ℕ) (from : ℕ) (k : List ℕ) (next : ℕ) : Type 0 where
  pub key : MathOption (List ℕ)
  pub leads : Leads s from key next
  pub is_below : below key k ≡ true

-- the later of two finds
abbrev pub later : Option Recorded → Option Recorded → Option Recorded
later found (Some m) = Some m
later found None = found
