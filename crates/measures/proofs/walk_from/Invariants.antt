-- Each turn passes one piece, by one law of `Walking`.
use Prim.Native.Nat.{◌-◌}
use lib.ListN.{length}
use Rattle.measures.proofs.Walking.{Walking}
use Rattle.measures.proofs.walk_from.Given as goal

abbrev pub invariant-loop-at : goal.invariant-loop-at
invariant-loop-at l = Walking l.s l.from l.depth l.nesting l.lines l.n l.at

abbrev pub decreases-loop-at : goal.decreases-loop-at
decreases-loop-at l = length l.s - l.at
