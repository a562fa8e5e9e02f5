-- Texts of one length whose ends agree from a place on are the same exactly if they agree before it.
use Rattle.std.proofs.Common.{◌-◌, sym, arith}
use Rattle.text_rules.proofs.TextSteps.{same_length}
use Rattle.order.proofs.Ends.{ends-all, ends-other}
use Rattle.order.proofs.same_bytes.Goals as goal

pub returns-then-s-t : goal.returns-then-s-t
returns-then-s-t c = let a = c.args in sym (same_length a.s.now a.t.now c.if-s-t.true)

pub returns-then-s-i : goal.returns-then-s-i
returns-then-s-i c =
    let a = c.args in
    sym (ends-other a.s.now a.t.now (c.loop-i.i - 1) c.if-s-i.true)

pub returns : goal.returns
returns c =
    let a = c.args in
    sym (ends-all a.s.now a.t.now c.loop-i.i (omega (arith, c.loop-i-test.false)) c.loop-i.invariant.1)
