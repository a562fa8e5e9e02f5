-- `prefix::common` meets its contract: what the texts have in common is what they have up to a place, and what they have from there on.
use native.Mathlib.Omega.{arith}
use Rattle.prefix.specs.Common.{common-end, common-more, common-stop}
use Rattle.prefix.proofs.common.Goals as goal

pub returns-then-s-i : goal.returns-then-s-i
returns-then-s-i c =
    let a = c.args in
    omega (arith, c.loop-i.invariant, common-stop a.s.now a.t.now c.loop-i.i (omega arith) (omega arith) c.if-s-i.true)

pub loop-i-preserved : goal.loop-i-preserved
loop-i-preserved c =
    let a = c.args in
    omega (arith, c.loop-i.invariant, common-more a.s.now a.t.now c.loop-i.i (omega arith) (omega arith) c.if-s-i.false)

pub returns : goal.returns
returns c =
    let a = c.args in
    omega (arith, c.loop-i.invariant, common-end a.s.now a.t.now c.loop-i.i (omega arith))
