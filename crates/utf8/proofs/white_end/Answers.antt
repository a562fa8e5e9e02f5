-- Each turn passes one character of white space, so the walk over the rest ends where the walk over the whole does.
use Rattle.std.proofs.Common.{arith, ◌∙◌, sym}
use Rattle.utf8.proofs.White.{a_length, white_done, white_room, white_step}
use Rattle.utf8.proofs.white_end.Goals as goal

pub overflow_add-at : goal.overflow_add-at
overflow_add-at c = let n = a_length _ _ c.in-Some.ensures in omega (arith, n.0, white_room c.args.s.now c.loop-n.at (omega arith))

pub loop-n-smaller : goal.loop-n-smaller
loop-n-smaller c = let n = a_length _ _ c.in-Some.ensures in omega (arith, n.0, n.1, white_room c.args.s.now c.loop-n.at (omega arith))

pub loop-n-preserved : goal.loop-n-preserved
loop-n-preserved c =
    let s = c.args.s.now in
    let at = c.loop-n.at in
    let n = a_length _ _ c.in-Some.ensures in
    let room = white_room s at (omega arith) in
    (omega (arith, n.0, room), sym (white_step s at (omega (arith, n.0, n.1, room)) c.in-Some.n n.0 (omega (arith, n.0, n.1))) ∙ c.loop-n.invariant.1)

pub returns : goal.returns
returns c = (sym (white_done c.args.s.now c.loop-n.at c.in_default.ensures) ∙ c.loop-n.invariant.1, omega arith)
