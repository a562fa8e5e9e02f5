use Rattle.std.proofs.Common.{arith, ◌+◌, ◌-◌, length-take, length-drop, ap, sym, ◌∙◌}
use Rattle.blocks.specs.Blocks.{count_none, count_most}
use Rattle.blocks.proofs.Pieces.{count_next}
use Rattle.blocks.proofs.count.Goals as goal

pub loop-b-init : goal.loop-b-init
loop-b-init c = (sym (count_none c.args.x c.args.s.now c.args.at), omega arith)

pub loop-b-preserved : goal.loop-b-preserved
loop-b-preserved c =
    let a = c.args in
    let k = c.loop-b.b-index in
    let e = count_next a.x a.s.now a.at (a.at + 16 - a.at) k c.loop-b.n c.loop-b.invariant.0 (omega (arith, simp (length-take, length-drop) at c.loop-b-test.true)) in
    (ap (λ j. c.loop-b.n + j) c.from-n.ensures ∙ e, omega (arith, c.from-n.ensures, e, count_most a.x a.s.now a.at (k + 1)))
