-- The regression lines of a tree against a baseline's lines, and what is known of these.
use Rattle.std.specs.Prelude.{ℕ, List}
use Rattle.gate_rules.specs.Baseline.{entries_of_lines}
use Rattle.gate_rules.specs.Check.{regressions}
use Rattle.gate_rules.specs.Functions.{Limits}
use Rattle.gate_rules.specs.Gate.{gate}
use Rattle.gate_rules.specs.Scan.{functions_of}

abbrev pub worse_in : Limits → (tree lines : List ℕ) → List (List ℕ)
worse_in L tree lines = regressions L (entries_of_lines lines) (functions_of gate tree)
