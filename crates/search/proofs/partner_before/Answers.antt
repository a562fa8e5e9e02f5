-- Each byte is one of the four ways of a partner's step.
use Rattle.std.proofs.Common.{sym, ◌∙◌, arith}
use Rattle.source_rules.proofs.WalkSteps.{partner_close, partner-found, partner_open, partner-other}
use Rattle.search.proofs.partner_before.Goals as goal
use Rattle.search.proofs.partner_before.Goals.{then-b-opening, else-b-opening+then-b-closing+else-inner-eq0, else-b-opening+else-b-closing}

pub returns-then-inner-eq0 : goal.returns-then-inner-eq0
returns-then-inner-eq0 c =
    let a = c.args in
    sym c.loop-at.invariant.same ∙ partner-found a.s.now c.loop-at.at (omega arith) a.opening a.closing c.loop-at.inner c.if-b-closing.true c.if-inner-eq0.true

pub loop-at-preserved : goal.loop-at-preserved
loop-at-preserved c =
    let a = c.args in
    elim c.if-b-opening.branch [
      | then-b-opening w ↦ rw w.inner-is (record {
        shallow = omega arith;
        same = sym (partner_open a.s.now c.loop-at.at (omega arith) a.opening a.closing c.loop-at.inner c.requires.0 w.if-b-opening.true) ∙ c.loop-at.invariant.same;
      })
      | else-b-opening+then-b-closing+else-inner-eq0 w ↦ rw w.inner-is (record {
        shallow = omega arith;
        same = sym (partner_close a.s.now c.loop-at.at (omega arith) a.opening a.closing c.loop-at.inner c.requires.0 w.if-b-closing.true w.if-inner-eq0.false) ∙ c.loop-at.invariant.same;
      })
      | else-b-opening+else-b-closing w ↦ rw w.inner-is (record {
        shallow = omega arith;
        same = sym (partner-other a.s.now c.loop-at.at (omega arith) a.opening a.closing c.loop-at.inner w.if-b-opening.false w.if-b-closing.false) ∙ c.loop-at.invariant.same;
      })
    ]
