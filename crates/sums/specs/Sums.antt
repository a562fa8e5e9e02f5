-- The sums of the files as the code holds them, and the table's entries that tell of them.
use Rattle.std.specs.Prelude.{ℕ, zero, suc, List, [], ◌∷◌, ◌++◌, get_or}
use Rattle.gate_rules.specs.Report as rules
use Rattle.sums.specs.declared.FileSum.{FileSum}

abbrev pub entry : ℕ → ℕ → FileSum
entry file sum = record { file = file; sum = sum }

-- what a read past the end would give
abbrev pub none : FileSum
none = entry 0 0

-- an entry of the rules, as it is stored, and back
abbrev pub stored : rules.FileSum → FileSum
stored e = entry e.file e.sum

abbrev pub told : FileSum → rules.FileSum
told e = record { file = e.file; sum = e.sum }

-- the first n entries
unfoldable pub first_entries : List ℕ → ℕ → List FileSum
first_entries of zero = []
first_entries of (suc n) = first_entries of n ++ entry n (get_or of n 0) ∷ []
