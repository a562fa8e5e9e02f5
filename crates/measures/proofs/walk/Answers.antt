-- Each byte is one step of the depth and one of the lines.
use Rattle.std.proofs.Common.{arith, refl, sym, ◌∙◌}
use Rattle.source_rules.specs.Measures.{lines_of, nesting_of}
use Rattle.source_rules.proofs.WalkSteps.{deepest-end, line-end}
use Rattle.measures.proofs.BodyLaws.{deepest_close, deepest_open, deepest-other, line-lf, line_other}
use Rattle.measures.proofs.walk.Goals as goal
use Rattle.measures.proofs.walk.Goals.{in-123, in-125, in-10, in_default}

pub loop-b-init : goal.loop-b-init
unfolding nesting_of lines_of
loop-b-init c = record { reached = omega arith; nesting_most = omega arith; lines_most = omega arith; nesting_same = refl; lines_same = refl }

pub loop-b-preserved : goal.loop-b-preserved
loop-b-preserved c =
    let s = c.args.body.now in
    let l = c.loop-b in
    let h = c.loop-b-test.true in
    let v = l.invariant in
    elim c.match-b.branch [
      | in-123 w ↦ rw (w.depth-is, w.nesting-is, w.lines-is, w.max-nesting.ensures) (record {
        reached = omega arith;
        nesting_most = omega (arith, v.reached, v.nesting_most);
        lines_most = omega (arith, v.lines_most);
        nesting_same = sym (deepest_open s l.b-index h l.nesting l.depth w.in-123.is) ∙ v.nesting_same;
        lines_same = sym (line_other s l.b-index h l.lines (λ z. omega (arith, w.in-123.is))) ∙ v.lines_same;
      })
      | in-125 w ↦ rw (w.depth-is, w.nesting-is, w.lines-is, w.saturating_sub-depth.ensures) (record {
        reached = omega (arith, v.reached);
        nesting_most = omega (arith, v.nesting_most);
        lines_most = omega (arith, v.lines_most);
        nesting_same = sym (deepest_close s l.b-index h l.nesting l.depth (λ z. omega (arith, w.in-125.is)) w.in-125.is v.reached) ∙ v.nesting_same;
        lines_same = sym (line_other s l.b-index h l.lines (λ z. omega (arith, w.in-125.is))) ∙ v.lines_same;
      })
      | in-10 w ↦ rw (w.depth-is, w.nesting-is, w.lines-is) (record {
        reached = v.reached;
        nesting_most = omega (arith, v.nesting_most);
        lines_most = omega (arith, v.lines_most);
        nesting_same = sym (deepest-other s l.b-index h l.nesting l.depth (λ z. omega (arith, w.in-10.is)) (λ z. omega (arith, w.in-10.is)) v.reached) ∙ v.nesting_same;
        lines_same = sym (line-lf s l.b-index h l.lines w.in-10.is) ∙ v.lines_same;
      })
      | in_default w ↦ rw (w.depth-is, w.nesting-is, w.lines-is) (record {
        reached = v.reached;
        nesting_most = omega (arith, v.nesting_most);
        lines_most = omega (arith, v.lines_most);
        nesting_same = sym (deepest-other s l.b-index h l.nesting l.depth (λ z. omega arith) (λ z. omega arith) v.reached) ∙ v.nesting_same;
        lines_same = sym (line_other s l.b-index h l.lines (λ z. omega arith)) ∙ v.lines_same;
      })
    ]

pub returns : goal.returns
returns c =
    let s = c.args.body.now in
    let l = c.loop-b in
    record {
      cyclomatic-is = c.cyclomatic-n.ensures;
      nesting-is = sym (deepest-end s l.b-index c.loop-b-test.false l.nesting l.depth) ∙ l.invariant.nesting_same;
      lines-is = sym (line-end s l.b-index c.loop-b-test.false l.lines) ∙ l.invariant.lines_same;
    }
