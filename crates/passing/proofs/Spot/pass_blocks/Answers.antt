-- A block is passed only where each byte of it passes and it ends no further than the given place.
use Rattle.std.proofs.Common.{ℕ, List, arith, refl, true, ◌+◌, ◌≡◌, ◌≤◌, subst, sym}
use Rattle.text_rules.specs.Classes.{lf}
use Rattle.blocks.specs.Blocks.{Every, count_from, count_most}
use Rattle.passing.specs.Passing.{Passed, passed_none, passed-block, passed-more}
use Rattle.passing.specs.declared.Spot.{Spot}
use Rattle.passing.proofs.Spot.pass_blocks.Goals as goal
use Rattle.passing.proofs.Spot.pass_blocks.Goals.{else-loop-at-test, then-loop-at-test+else-to-at-lt-WIDTH+else-not-passes+else-to-at-gt16}

-- a block behind what was passed
next_block : (P : ℕ → Type 0) (s : List ℕ) (from start to at : ℕ) (q r : Spot) → Passed P s from start to q → q.at ≡ at → at + 16 ≤ to → Every P s at 16
    → r ≡ record { at = q.at + 16; line = q.line + count_from lf s q.at 16 } → Passed P s from start to r
next_block P s from start to at q r p here fits each e =
    let there : Every P s q.at 16 = subst (λ k. Every P s k 16) (sym here) each in
    rw e (passed-more P s from start to _ _ p (passed-block P s q.at q.line to 16 (omega (arith, here, fits)) there _ refl))

pub loop-at-init : goal.loop-at-init
loop-at-init g c =
    let a = c.args in
    record { passed = passed_none (λ b. g.F.Fn.post a.test (b, tt) true) a.s.now a.self.at a.self.line a.to; line_most = c.requires.line; here = refl }

pub loop-at-preserved : goal.loop-at-preserved
loop-at-preserved g c =
    let a = c.args in
    let l = c.loop-at in
    let i = l.invariant in
    let e = c.behind_block-spot.ensures in
    record {
      passed = next_block (λ b. g.F.Fn.post a.test (b, tt) true) a.s.now a.self.at a.self.line a.to l.at l.spot _ i.passed i.here (omega arith) (c.passes.ensures c.if-not-passes.false) e;
      line_most = rw e (omega (arith, i.line_most, count_most lf a.s.now l.spot.at 16));
      here = rw e (omega (arith, i.here));
    }

pub returns : goal.returns
returns g c =
    let a = c.args in
    let l = c.loop-at in
    let i = l.invariant in
    elim c.loop-at-test.branch [
      | else-loop-at-test w ↦ rw w.spot-is i.passed
      | then-loop-at-test+else-to-at-lt-WIDTH+else-not-passes+else-to-at-gt16 w ↦
          rw w.spot-is
          (next_block (λ b. g.F.Fn.post a.test (b, tt) true) a.s.now a.self.at a.self.line a.to l.at l.spot _ i.passed i.here (omega (arith, w.loop-at-test.true, w.if-to-at-lt-WIDTH.false))
          (w.passes.ensures w.if-not-passes.false) w.behind_block-spot.ensures)
    ]
