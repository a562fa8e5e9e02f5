-- What the answers of this crate stand for, in the words of the rules.
use Rattle.std.specs.Prelude.{ℕ, ◌+◌, ◌<◌, ◌≤◌, ◌≡◌, List, Option, Some, None, ltb, length, take, get_or}
use Rattle.std.specs.Borrow.{Bor}
use Rattle.std.proofs.Math.Option.{Option as MathOption, none, some}
use Rattle.text_rules.specs.Bytes.{if◌then◌otherwise◌, same}
use Rattle.text_rules.specs.Classes.{tab}
use Rattle.text_rules.specs.Lines.{without_cr}
use Rattle.text_rules.specs.Search.{part}
use Rattle.gate_rules.specs.Baseline.{Entry, entry_key}
use Rattle.gate_rules.specs.Functions.{key_of}
use Rattle.baseline.specs.declared.FunctionKey.{FunctionKey}
use Rattle.baseline.specs.declared.Listed.{Listed}
use Rattle.baseline.specs.declared.Recorded.{Recorded}

-- the line that begins at `from` and ends at `end`: where an LF ends it, it loses one CR
abbrev pub line_at : List ℕ → (from end : ℕ) → List ℕ
line_at s from end = if ltb end (length s) then without_cr (part from end s) otherwise part from end s

abbrev pub number_of : Option ℕ → MathOption ℕ
number_of (Some n) = some n
number_of None = none

-- the entry of a line, its path and name by their bounds
abbrev pub entry_in : List ℕ → Option Listed → MathOption Entry
entry_in line (Some l) =
    some (record { path = part 0 l.path_end line; name = part (l.path_end + 1) l.name_end line; cyclomatic = l.cyclomatic; lines = l.lines })
entry_in line None = none

-- the places of an entry lie in its line, in their order, and a tab stands between path and name
abbrev pub Inside : List ℕ → Option Listed → Type 0
Inside line (Some l) = (l.path_end < l.name_end) × (l.name_end < length line) × (get_or line l.path_end 0 ≡ tab)
Inside line None = Unit {0}

-- the path of an entry ends at a place
abbrev pub PathEnds : Option Listed → ℕ → Type 0
PathEnds (Some l) a = l.path_end ≡ a
PathEnds None a = Unit {0}

-- an entry, if it has the key
abbrev pub hit : List ℕ → MathOption Entry → MathOption Entry
hit k none = none
hit k (some e) = if same (entry_key e) k then some e otherwise none

-- the key that is made of a function's path and name
abbrev pub key_bytes : FunctionKey → List ℕ
key_bytes k = key_of k.path.now k.name.now

-- the bytes of a key, and the key of an entry
abbrev pub key_text : Option (Bor (List ℕ)) → MathOption (List ℕ)
key_text (Some k) = some k.now
key_text None = none

-- a key is the beginning of its line, and goes past the tab behind its path
abbrev pub KeyFrom : MathOption (List ℕ) → (line : List ℕ) → (path : ℕ) → Type 0
KeyFrom (some k) line path = (k ≡ take (length k) line) × (path < length k) × (length k ≤ length line)
KeyFrom none line path = Unit {0}

abbrev pub key_of_entry : MathOption Entry → MathOption (List ℕ)
key_of_entry none = none
key_of_entry (some e) = some (entry_key e)

-- what an entry accepts
abbrev pub accepted_by : MathOption Entry → Option Recorded
accepted_by (some e) = Some (record { cyclomatic = e.cyclomatic; lines = e.lines })
accepted_by none = None
