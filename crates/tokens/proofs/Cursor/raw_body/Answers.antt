-- Each turn is one step of the length. After a quote the hashes that follow decide, as in the definition.
use native.Mathlib.Omega.{arith}
use Rattle.tokens.proofs.Bodies.{raw_close, raw_end, raw_other, raw_short}
use Rattle.tokens.proofs.Cursor.raw_body.Goals as goal
use Rattle.tokens.proofs.Cursor.raw_body.Goals.{then-s-at-eq-QUOTE+else-n-h, else-s-at-eq-QUOTE}

pub returns-then-n-h : goal.returns-then-n-h
returns-then-n-h c = omega (arith, c.loop-at.invariant, raw_close c.args.s.now c.loop-at.at (omega arith) c.args.n c.if-s-at-eq-QUOTE.true (omega arith))

pub loop-at-preserved : goal.loop-at-preserved
loop-at-preserved c =
    let s = c.args.s.now in
    let i = c.loop-at.at in
    elim c.if-s-at-eq-QUOTE.branch [
      | then-s-at-eq-QUOTE+else-n-h w ↦ omega (arith, c.loop-at.invariant, raw_short s i (omega arith) c.args.n w.if-s-at-eq-QUOTE.true (omega arith))
      | else-s-at-eq-QUOTE w ↦ omega (arith, c.loop-at.invariant, raw_other s i (omega arith) c.args.n w.if-s-at-eq-QUOTE.false)
    ]

pub returns : goal.returns
returns c = omega (arith, c.loop-at.invariant, raw_end c.args.s.now c.loop-at.at (omega arith) c.args.n)
