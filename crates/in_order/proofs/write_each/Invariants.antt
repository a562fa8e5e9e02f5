-- What the lines still to come add remains to be written.
use Rattle.listing.specs.Writes.{Remains}
use Rattle.listed_keys.specs.KeyLines.{key_lines}
use Rattle.in_order.specs.StaleKeys.{stale_in}
use Rattle.in_order.specs.Walks.{come_of}
use Rattle.in_order.proofs.write_each.Given as goal

abbrev pub invariant-loop-step : goal.invariant-loop-step
invariant-loop-step l = Remains (key_lines (come_of l.step-iterator)) (key_lines (stale_in l.fs.tree.now l.lines)) l.initial.w l.w
