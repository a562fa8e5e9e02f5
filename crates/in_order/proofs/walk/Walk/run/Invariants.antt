-- The lines passed so far add what was counted, and each line behind them adds its key.
use Rattle.std.proofs.Common.{◌-◌, length}
use Rattle.in_order.specs.Runs.{Passes}
use Rattle.in_order.proofs.walk.Walk.run.Given as goal

abbrev pub invariant-loop-line : goal.invariant-loop-line
invariant-loop-line l = Passes l.fn.self l.size l.walk

abbrev pub decreases-loop-line : goal.decreases-loop-line
decreases-loop-line l = length l.walk.lines.now - l.walk.from
