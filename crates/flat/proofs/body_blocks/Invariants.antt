-- `flat::body_blocks` meets its contract: a block that may be passed whole leaves the brace that is sought, with the counts behind it.
use Prim.Native.Nat.{◌-◌}
use Rattle.flat.specs.Body.{Halts}
use Rattle.flat.proofs.body_blocks.Given as goal

abbrev pub invariant-loop-at : goal.invariant-loop-at
invariant-loop-at l = Halts l.s l.from l.to l.initial.counts (record { at = l.at; counts = l.counts })

abbrev pub decreases-loop-at : goal.decreases-loop-at
decreases-loop-at l = l.to - l.at
