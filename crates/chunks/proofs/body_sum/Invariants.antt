-- `chunks::body_sum` meets its contract: at each turn the sums are those of the bytes before the place.
use Prim.Native.Nat.{◌-◌}
use Rattle.chunks.specs.Passing.{PassesBody}
use Rattle.chunks.specs.Sums.{Within}
use Rattle.chunks.proofs.body_sum.Given as goal

abbrev pub invariant-loop-at : goal.invariant-loop-at
invariant-loop-at l = Within (l.at - l.from) l.c × PassesBody l.s l.from l.at l.c
