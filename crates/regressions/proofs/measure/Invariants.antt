-- `regressions::measure` meets its contract: what is counted, and what the functions still to come have, is the whole.
use Prim.Native.Nat.{◌*◌, ◌+◌, ◌≤◌}
use mathlib.Core.Path.{◌≡◌}
use lib.ListN.{length}
use Rattle.gate_rules.specs.Baseline.{entries_of_lines}
use Rattle.gate_rules.specs.Check.{listed}
use Rattle.gate_rules.specs.Gate.{gate}
use Rattle.gate_rules.specs.Scan.{functions_of}
use Rattle.functions.specs.Shown.{limits_of}
use Rattle.regressions.proofs.Left.{left}
use Rattle.regressions.specs.Worse.{worse_in}
use Rattle.regressions.proofs.measure.Given as goal

abbrev pub invariant-loop-k : goal.invariant-loop-k
invariant-loop-k l =
    let tree = l.entries.functions.tree.now in
    let lines = l.entries.lines.now in
    let here = left (limits_of l.limits) (entries_of_lines lines) (functions_of gate tree) l.k in
    let whole = worse_in (limits_of l.limits) tree lines in
    (l.k ≤ l.entries.functions.count)
    × (l.all.count + length here ≡ length whole)
    × (l.all.bytes + length (listed here) ≡ length (listed whole))
    × (l.all.count ≤ 2 * l.k)
    × (l.all.bytes ≤ 80000000 * l.k)
