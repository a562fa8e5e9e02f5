-- Each turn passes a byte that is not of white space, or one character that is, so the walk over the rest ends where the walk over the whole does.
use Rattle.std.proofs.Common.{arith, ◌∙◌, sym}
use Rattle.utf8.proofs.White.{a_length, no_length, text-last, text-other, text-step, white_room}
use Rattle.utf8.proofs.text_end.Goals as goal

pub overflow_add-at : goal.overflow_add-at
overflow_add-at c = let n = a_length _ _ c.in-Some.ensures in omega (arith, n.0, white_room c.args.s.now c.loop-at.at (omega arith))

pub loop-at-preserved-in-Some : goal.loop-at-preserved-in-Some
loop-at-preserved-in-Some c =
    let s = c.args.s.now in
    let at = c.loop-at.at in
    let n = a_length _ _ c.in-Some.ensures in
    (omega (arith, n.0, white_room s at (omega arith)), omega arith, sym (text-step s at (omega arith) c.loop-at.end c.in-Some.n n.0 (omega (arith, n.0, n.1))) ∙ c.loop-at.invariant.2)

pub loop-at-preserved : goal.loop-at-preserved
loop-at-preserved c =
    let s = c.args.s.now in
    (omega arith, omega arith, sym (text-other s c.loop-at.at (omega arith) c.loop-at.end (no_length _ c.in-None.ensures)) ∙ c.loop-at.invariant.2)

pub returns : goal.returns
returns c = let s = c.args.s.now in
    (sym (text-last s c.loop-at.at c.loop-at-test.false c.loop-at.end) ∙ c.loop-at.invariant.2, omega arith)
