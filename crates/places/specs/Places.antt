-- The line that lists each function, by a number: 0 where none does, and else one more than where the line begins.
use Rattle.std.specs.Prelude.{ℕ, zero, suc, ◌+◌, ◌≤◌, ◌<◌, ◌≡◌, Bool, false, List, length, drop, get_or}
use Rattle.std.proofs.Math.Option.{Option, none, some}
use Rattle.text_rules.specs.Bytes.{if◌then◌otherwise◌, same}
use Rattle.text_rules.specs.Classes.{lf}
use Rattle.text_rules.specs.Search.{bytes_before}
use Rattle.gate_rules.specs.Baseline.{Entry, entries_of_lines, entry_of, lookup}
use Rattle.gate_rules.specs.Functions.{Fun, key}
use Rattle.functions.specs.Shown.{no_fun}
use Rattle.baseline.specs.Reads.{line_at}

-- the entry of the line that begins at `from`
abbrev pub entry_at : List ℕ → (from : ℕ) → Option Entry
entry_at s from = entry_of (line_at s from (from + bytes_before lf (drop from s)))

-- the entry at a place
abbrev pub placed : List ℕ → (place : ℕ) → Option Entry
placed s zero = none
placed s (suc from) = entry_at s from

-- at the place of each function stands what a look-up of its key finds
pub record Filled (s : List ℕ) (fs : List Fun) (places : List ℕ) : Type 0 where
  pub inside : (k : ℕ) → k < length fs → get_or places k 0 ≤ length s
  pub finds : (k : ℕ) → k < length fs → lookup (key (get_or fs k no_fun)) (entries_of_lines s) ≡ placed s (get_or places k 0)

-- whether the key of a line, where it has one, is that of a function
abbrev pub lists : Option (List ℕ) → Fun → Bool
lists none f = false
lists (some k) f = same k (key f)

-- the functions that a line lists get its place, the others keep theirs
pub record Marks (k : Option (List ℕ)) (place : ℕ) (fs : List Fun) (old new : List ℕ) : Type 0 where
  pub same_length : length new ≡ length old
  pub each : (i : ℕ) → i < length fs → get_or new i 0 ≡ (if lists k (get_or fs i no_fun) then place otherwise get_or old i 0)
