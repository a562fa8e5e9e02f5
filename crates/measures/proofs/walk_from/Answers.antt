-- Each turn passes one piece, by one law of `Walking`.
use Prim.Native.Nat.{suc, ◌+◌}
use mathlib.Core.Path.{◌∙◌, ap, subst, sym}
use native.Mathlib.Omega.{arith}
use lib.ListN.{get_or}
use Rattle.text_rules.specs.Bytes.{if◌then◌otherwise◌}
use Rattle.measures.proofs.BodyLaws.{piece-room}
use Rattle.measures.proofs.Cut.{letter_inner}
use Rattle.measures.proofs.Words.{counted}
use Rattle.measures.proofs.Walking.{Walking, closed, cyclomatic-found, ended, found, line, lines-found, nesting-found, opened, piece, spaced, start}
use Rattle.measures.proofs.walk_from.Goals as goal

pub loop-at-init : goal.loop-at-init
loop-at-init c =
    start c.args.s.now c.args.from c.requires.0 c.requires.1

pub loop-at-preserved-then-b-eq32 : goal.loop-at-preserved-then-b-eq32
loop-at-preserved-then-b-eq32 c =
    let a = c.args in
    spaced a.s.now a.from c.loop-at.depth c.loop-at.nesting c.loop-at.lines c.loop-at.n c.loop-at.at c.loop-at.invariant (omega arith) c.if-b-eq32.true

pub loop-at-smaller-then-is_letter : goal.loop-at-smaller-then-is_letter
loop-at-smaller-then-is_letter c =
    let p = c.word_at-p in
    let s = c.args.s.now in
    omega (arith, p.ensures.end_is, piece-room s c.loop-at.at (omega arith))

pub loop-at-preserved-then-is_letter : goal.loop-at-preserved-then-is_letter
loop-at-preserved-then-is_letter c =
    let p = c.word_at-p in
    let s = c.args.s.now in
    let l = c.loop-at in
    let i = letter_inner (get_or s l.at 0) (sym c.is_letter.ensures ∙ c.if-is_letter.true) in
    let m = ap (λ k. l.n + k) c.from-n.ensures ∙ counted l.n p.result.decides ∙ ap (λ b. if b then suc l.n otherwise l.n) p.ensures.decides-is in
    piece s c.args.from l.depth l.nesting l.lines l.n l.at l.invariant (omega arith) p.result.end _ i p.ensures.end_is m

pub loop-at-preserved-then-b-eq10 : goal.loop-at-preserved-then-b-eq10
loop-at-preserved-then-b-eq10 c =
    let a = c.args in
    line a.s.now a.from c.loop-at.depth c.loop-at.nesting c.loop-at.lines c.loop-at.n c.loop-at.at c.loop-at.invariant (omega arith) c.if-b-eq10.true

pub loop-at-preserved-then-b-eq123 : goal.loop-at-preserved-then-b-eq123
loop-at-preserved-then-b-eq123 c =
    let a = c.args in
    let q = opened a.s.now a.from c.loop-at.depth c.loop-at.nesting c.loop-at.lines c.loop-at.n c.loop-at.at c.loop-at.invariant (omega arith) c.if-b-eq123.true in
    subst (λ k. Walking a.s.now a.from (c.loop-at.depth + 1) k c.loop-at.lines c.loop-at.n (c.loop-at.at + 1)) (sym c.max-nesting.ensures) q

pub returns-then-depth-eq0 : goal.returns-then-depth-eq0
returns-then-depth-eq0 c =
    let a = c.args in
    let s = a.s.now in
    let v = c.loop-at in
    let e = c.if-b-eq125.true in
    let z = c.if-depth-eq0.true in
    record {
      end_is = found s a.from v.depth v.nesting v.lines v.n v.at v.invariant (omega arith) e z;
      measured = record {
        cyclomatic-is = cyclomatic-found s a.from v.depth v.nesting v.lines v.n v.at v.invariant (omega arith) e z;
        nesting-is = nesting-found s a.from v.depth v.nesting v.lines v.n v.at v.invariant (omega arith) e z;
        lines-is = lines-found s a.from v.depth v.nesting v.lines v.n v.at v.invariant (omega arith) e z;
      };
    }

pub loop-at-preserved-then-b-eq125 : goal.loop-at-preserved-then-b-eq125
loop-at-preserved-then-b-eq125 c =
    let a = c.args in
    closed a.s.now a.from c.loop-at.depth c.loop-at.nesting c.loop-at.lines c.loop-at.n c.loop-at.at c.loop-at.invariant (omega arith) c.if-b-eq125.true c.if-depth-eq0.false

pub loop-at-smaller : goal.loop-at-smaller
loop-at-smaller c =
    let p = c.mark_at-p in
    let s = c.args.s.now in
    omega (arith, p.ensures.end_is, piece-room s c.loop-at.at (omega arith))

pub loop-at-preserved : goal.loop-at-preserved
loop-at-preserved c =
    let p = c.mark_at-p in
    let l = c.loop-at in
    let m = ap (λ k. l.n + k) c.from-n-else-b-eq125.ensures ∙ counted l.n p.result.decides ∙ ap (λ b. if b then suc l.n otherwise l.n) p.ensures.decides-is in
    piece c.args.s.now c.args.from l.depth l.nesting l.lines l.n l.at l.invariant (omega arith) p.result.end _ (c.if-b-eq123.false, c.if-b-eq125.false, c.if-b-eq10.false) p.ensures.end_is m

pub returns : goal.returns
returns c =
    let a = c.args in
    record { end_is = ended a.s.now a.from c.loop-at.depth c.loop-at.nesting c.loop-at.lines c.loop-at.n c.loop-at.at c.loop-at.invariant c.loop-at-test.false; measured = tt }
