-- Only bytes that pass the test are passed, and only before the given place.
use Rattle.std.proofs.Common.{ℕ, ap, arith, refl, true, ◌≡◌, get_or, subst, sym}
use Rattle.text_rules.specs.Classes.{lf}
use Rattle.source_rules.proofs.MeasuresLaws.{count-after}
use Rattle.passing.specs.Passing.{passed_none, passed-byte, passed-more}
use Rattle.passing.proofs.Spot.pass_bytes.Goals as goal

pub loop-at-init : goal.loop-at-init
loop-at-init g c =
    let a = c.args in
    record { passed = passed_none (λ b. g.F.Fn.post a.test (b, tt) true) a.s.now a.self.at a.self.line a.to; line_most = c.requires.line; here = refl }

pub loop-at-preserved : goal.loop-at-preserved
loop-at-preserved g c =
    let a = c.args in
    let s = a.s.now in
    let l = c.loop-at in
    let P = λ (b : ℕ). g.F.Fn.post a.test (b, tt) true in
    let b : get_or s l.at 0 ≡ get_or s l.spot.at 0 = ap (λ k. get_or s k 0) (sym l.invariant.here) in
    let here : P (get_or s l.at 0) = subst (λ r. g.F.Fn.post a.test (get_or s l.at 0, tt) r) c.if-not-test.false c.test.ensures in
    rw c.behind_byte-spot.ensures (record {
      passed = passed-more P s a.self.at a.self.line a.to _ _ l.invariant.passed (passed-byte P s l.spot.at l.spot.line a.to (omega (arith, l.invariant.here)) (subst P b here) _ refl);
      line_most = omega (arith, l.invariant.line_most, count-after lf (get_or s l.spot.at 0) l.spot.line);
      here = omega (arith, l.invariant.here);
    })
