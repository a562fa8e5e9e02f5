-- Each byte has its law.
use Rattle.std.proofs.Common.{arith, subst, sym, ◌∙◌, ◌≡◌}
use Rattle.source_rules.proofs.WalkSteps.{body-step}
use Rattle.flat.specs.BodyLaws.{past_angle_close, past_angle_open, past-brace, past-semicolon, past_square_close, past_square_open, plain-passed}
use Rattle.flat.specs.Body.{Counted, body_from}
use Rattle.flat.proofs.body_bytes.Goals as goal
use Rattle.flat.proofs.body_bytes.Goals.{in-60, in-62, in-91, in-93, in-123+else-is_flat, in-59+else-is_flat-2, in_default-1}

pub returns-in-123 : goal.returns-in-123
returns-in-123 c =
    let l = c.loop-at in
    let m = l.m in
    l.invariant.same ∙ body-step c.args.s.now l.at (omega arith) m.angle m.opened m.closed ∙ rw (sym c.is_flat.ensures ∙ c.if-is_flat.true, c.in-123.is)

pub returns-in-59 : goal.returns-in-59
returns-in-59 c =
    let l = c.loop-at in
    let m = l.m in
    l.invariant.same ∙ body-step c.args.s.now l.at (omega arith) m.angle m.opened m.closed ∙ rw (sym c.if-is_flat-2.ensures, c.in-59.is)

pub loop-at-preserved : goal.loop-at-preserved
loop-at-preserved c =
    let s = c.args.s.now in
    let l = c.loop-at in
    let m = l.m in
    let v = l.invariant in
    elim c.match-s-at.branch [
      | in-60 w ↦ rw w.m-is (record {
        counted = record { angle_most = omega (arith, v.counted.angle_most); opened-most = omega (arith, v.counted.opened-most); closed-most = omega (arith, v.counted.closed-most) };
        same = v.same ∙ past_angle_open s m.angle m.opened m.closed l.at (omega arith) w.in-60.is;
      })
      | in-62 w ↦ rw (w.m-is, w.saturating_sub.ensures) (record {
        counted = record { angle_most = omega (arith, v.counted.angle_most); opened-most = omega (arith, v.counted.opened-most); closed-most = omega (arith, v.counted.closed-most) };
        same = v.same ∙ past_angle_close s m.angle m.opened m.closed l.at (omega arith) w.in-62.is;
      })
      | in-91 w ↦ rw w.m-is (record {
        counted = record { angle_most = omega (arith, v.counted.angle_most); opened-most = omega (arith, v.counted.opened-most); closed-most = omega (arith, v.counted.closed-most) };
        same = v.same ∙ past_square_open s m.angle m.opened m.closed l.at (omega arith) w.in-91.is;
      })
      | in-93 w ↦ rw w.m-is (record {
        counted = record { angle_most = omega (arith, v.counted.angle_most); opened-most = omega (arith, v.counted.opened-most); closed-most = omega (arith, v.counted.closed-most) };
        same = v.same ∙ past_square_close s m.angle m.opened m.closed l.at (omega arith) w.in-93.is;
      })
      | in-123+else-is_flat w ↦ rw w.m-is (record {
        counted = record { angle_most = omega (arith, v.counted.angle_most); opened-most = omega (arith, v.counted.opened-most); closed-most = omega (arith, v.counted.closed-most) };
        same = v.same ∙ past-brace s m.angle m.opened m.closed l.at (omega arith) w.in-123.is (sym w.is_flat.ensures ∙ w.if-is_flat.false);
      })
      | in-59+else-is_flat-2 w ↦ rw w.m-is (record {
        counted = record { angle_most = omega (arith, v.counted.angle_most); opened-most = omega (arith, v.counted.opened-most); closed-most = omega (arith, v.counted.closed-most) };
        same = v.same ∙ past-semicolon s m.angle m.opened m.closed l.at (omega arith) w.in-59.is (sym w.if-is_flat-2.ensures);
      })
      | in_default-1 w ↦ rw w.m-is (record {
        counted = record { angle_most = omega (arith, v.counted.angle_most); opened-most = omega (arith, v.counted.opened-most); closed-most = omega (arith, v.counted.closed-most) };
        same = v.same ∙ plain-passed s m.angle m.opened m.closed l.at (omega arith) (λ e. omega arith, λ e. omega arith, λ e. omega arith, λ e. omega arith, λ e. omega arith, λ e. omega arith);
      })
    ]

pub returns : goal.returns
returns c =
    let l = c.loop-at in
    let e : l.at ≡ c.args.to = omega arith in
    subst (λ k. (body_from c.args.s.now c.args.from c.args.n ≡ body_from c.args.s.now k l.m) × Counted l.m k) e (l.invariant.same, l.invariant.counted)
