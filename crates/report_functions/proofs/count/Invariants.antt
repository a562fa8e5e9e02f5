-- `report_functions::count` meets its contract: at each turn what is counted, and what is to be counted of the functions left, make the whole.
use Rattle.gate_rules.specs.Gate.{gate}
use Rattle.gate_rules.specs.Scan.{functions_of}
use Rattle.functions.specs.Shown.{limits_of}
use Rattle.report_functions.specs.Counting.{Counting}
use Rattle.report_functions.proofs.count.Given as goal

abbrev pub invariant-loop-k : goal.invariant-loop-k
invariant-loop-k l = Counting (limits_of l.limits) (functions_of gate l.functions.tree.now) l.k l.c
