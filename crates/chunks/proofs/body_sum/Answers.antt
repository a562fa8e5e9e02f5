-- `chunks::body_sum` meets its contract: at each turn the sums are those of the bytes before the place.
use Prim.Native.Nat.{◌-◌, ◌+◌}
use native.Mathlib.Omega.{arith}
use Rattle.chunks.specs.Sums.{body-next, body-none, nothing, within_more, within_none}
use Rattle.chunks.proofs.body_sum.Goals as goal

pub loop-at-init : goal.loop-at-init
loop-at-init c = (within_more 0 _ nothing (omega arith) within_none, body-none c.args.s.now c.args.from nothing within_none)

pub loop-at-preserved : goal.loop-at-preserved
loop-at-preserved c =
    let a = c.args in
    let v = c.loop-at.invariant in
    let q = c.sums_after-c.ensures in
    let w = q.within (c.loop-at.at - a.from) (omega arith) v.0 in
    let n = within_more (c.loop-at.at - a.from + 1) (c.loop-at.at + 1 - a.from) c.sums_after-c.result (omega arith) w in
    (n, body-next a.s.now a.from c.loop-at.at c.loop-at.c c.sums_after-c.result (omega arith) (omega arith) v.1 n q)
