-- Each turn passes one piece, so the count over the rest is the count over the whole.
use Rattle.std.proofs.Common.{suc, ◌+◌, ◌∙◌, ap, refl, sym, arith, drop}
use Rattle.text_rules.specs.Bytes.{if◌then◌otherwise◌}
use Rattle.source_rules.specs.Measures.{cyclomatic_from, cyclomatic_of, decides}
use Rattle.source_rules.proofs.WalkSteps.{cyclomatic-end}
use Rattle.measures.proofs.BodyLaws.{cyclomatic_jump, piece-room}
use Rattle.measures.proofs.Words.{counted, one_most}
use Rattle.measures.proofs.cyclomatic.Goals as goal

pub loop-at-init : goal.loop-at-init
unfolding cyclomatic_of
loop-at-init c = (omega arith, omega arith, refl)

pub loop-at-smaller : goal.loop-at-smaller
loop-at-smaller c =
    omega (arith, c.piece_at-p.ensures.end_is, piece-room c.args.body.now c.loop-at.at (omega arith))

pub loop-at-preserved : goal.loop-at-preserved
loop-at-preserved c =
    let s = c.args.body.now in
    let l = c.loop-at in
    let n = l.n in
    let p = c.piece_at-p in
    let m = ap (λ k. n + k) c.from-n.ensures ∙ counted n p.result.decides ∙ ap (λ b. if b then suc n otherwise n) p.ensures.decides-is in (
      p.ensures.inside,
      omega (arith, c.from-n.ensures, one_most p.result.decides, p.ensures.end_is, piece-room s l.at (omega arith)),
      ap (λ k. cyclomatic_from k 0 (drop p.result.end s)) m
          ∙ ap (λ k. cyclomatic_from (if decides (drop l.at s) then suc n otherwise n) 0 (drop k s)) p.ensures.end_is
          ∙ sym (cyclomatic_jump s l.at (omega arith) n)
          ∙ l.invariant.2,
    )

pub returns : goal.returns
returns c = sym (cyclomatic-end c.args.body.now c.loop-at.at c.loop-at-test.false c.loop-at.n 0) ∙ c.loop-at.invariant.2
