-- `order::before` meets its contract: where the texts agree up to a place, the order of the rests is the order of the texts.
use Rattle.std.proofs.Common.{sym, ◌∙◌, arith}
use Rattle.order.proofs.Steps.{before_longer, before_lower, before-other, before_same, before_shorter}
use Rattle.order.proofs.before.Goals as goal

pub returns-then-s-i : goal.returns-then-s-i
returns-then-s-i c =
    let a = c.args in
    sym (sym c.loop-i.invariant ∙ before_shorter a.s.now a.t.now c.loop-i.i c.if-s-i.true (omega arith))

pub returns-then-s-i-2 : goal.returns-then-s-i-2
returns-then-s-i-2 c =
    let a = c.args in
    sym (sym c.loop-i.invariant ∙ before_lower a.s.now a.t.now c.loop-i.i (omega arith) (omega arith) c.if-s-i-2.true)

pub returns-then-s-i-3 : goal.returns-then-s-i-3
returns-then-s-i-3 c =
    let a = c.args in
    sym (sym c.loop-i.invariant ∙ before-other a.s.now a.t.now c.loop-i.i (omega arith) (omega arith) c.if-s-i-2.false c.if-s-i-3.true)

pub loop-i-preserved : goal.loop-i-preserved
loop-i-preserved c =
    let a = c.args in
    sym (before_same a.s.now a.t.now c.loop-i.i (omega arith) (omega arith) c.if-s-i-2.false c.if-s-i-3.false) ∙ c.loop-i.invariant

pub returns : goal.returns
returns c =
    let a = c.args in
    sym (sym c.loop-i.invariant ∙ before_longer a.s.now a.t.now c.loop-i.i (omega arith))
