-- `regressions::write_all` meets its contract: the lines of the functions still to come are still to be put.
use Prim.Native.Nat.{◌≤◌}
use Rattle.gate_rules.specs.Baseline.{entries_of_lines}
use Rattle.gate_rules.specs.Check.{listed}
use Rattle.gate_rules.specs.Gate.{gate}
use Rattle.gate_rules.specs.Scan.{functions_of}
use Rattle.functions.specs.Shown.{limits_of}
use Rattle.listing.specs.Writes.{Remains}
use Rattle.regressions.proofs.Left.{left}
use Rattle.regressions.specs.Worse.{worse_in}
use Rattle.regressions.proofs.write_all.Given as goal

abbrev pub invariant-loop-k : goal.invariant-loop-k
invariant-loop-k l =
    let tree = l.entries.functions.tree.now in
    let lines = l.entries.lines.now in
    let here = left (limits_of l.limits) (entries_of_lines lines) (functions_of gate tree) l.k in
    (l.k ≤ l.entries.functions.count) × Remains (listed here) (listed (worse_in (limits_of l.limits) tree lines)) l.initial.w l.w
