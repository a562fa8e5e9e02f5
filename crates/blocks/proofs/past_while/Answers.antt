-- A block is passed only where each byte of it passes.
use Rattle.std.proofs.Common.{arith, true}
use Rattle.blocks.proofs.Pieces.{passed_further}
use Rattle.blocks.proofs.past_while.Goals as goal

pub loop-at-preserved : goal.loop-at-preserved
loop-at-preserved g c =
    let a = c.args in
    let l = c.loop-at in
    record {
      low = omega (arith, l.invariant.low);
      high = omega (arith, c.loop-at-test.true, l.invariant.high);
      passed = passed_further (λ b. g.F.Fn.post a.test (b, tt) true) a.s.now a.from l.at 16 l.invariant.passed (c.passes.ensures c.if-passes.true);
    }
