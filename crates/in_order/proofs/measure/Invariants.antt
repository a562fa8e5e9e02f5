-- What is counted, and what the lines still to come add, is the whole.
use Rattle.std.proofs.Common.{◌-◌, length}
use Rattle.in_order.proofs.Measuring.{Measured}
use Rattle.in_order.proofs.measure.Given as goal

abbrev pub invariant-loop-step : goal.invariant-loop-step
invariant-loop-step l = Measured l.functions.tree.now l.baseline.lines.now l.walk l.whole l.size

abbrev pub decreases-loop-step : goal.decreases-loop-step
decreases-loop-step l = length l.walk.lines.now - l.walk.from
