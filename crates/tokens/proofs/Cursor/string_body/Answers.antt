-- Each turn is one step of the length.
use mathlib.Core.Path.{ap}
use mathlib.Core.Bool.{Bool}
use native.Mathlib.Omega.{arith}
use lib.ListN.{drop}
use Rattle.source_rules.specs.Blank.{string_length}
use Rattle.tokens.proofs.Bodies.{string_close, string_end, string_on, string_skip}
use Rattle.tokens.proofs.Cursor.string_body.Goals as goal
use Rattle.tokens.proofs.Cursor.string_body.Goals.{then-skip, else-skip+else-b-eq-QUOTE}

pub returns-then-b-eq-QUOTE : goal.returns-then-b-eq-QUOTE
returns-then-b-eq-QUOTE c = let s = c.args.s.now in
    omega (arith, c.loop-at.invariant, string_close s c.loop-at.at (omega arith) c.if-b-eq-QUOTE.true, ap (λ (k : Bool). string_length k (drop c.loop-at.at s)) c.if-skip.false)

pub loop-at-preserved : goal.loop-at-preserved
loop-at-preserved c =
    let s = c.args.s.now in
    let i = c.loop-at.at in
    elim c.if-skip.branch [
      | then-skip w ↦ rw w.skip-is (omega (arith, c.loop-at.invariant, string_skip s i (omega arith), ap (λ (k : Bool). string_length k (drop i s)) w.if-skip.true))
      | else-skip+else-b-eq-QUOTE w ↦ rw w.skip-is (omega (arith, c.loop-at.invariant, string_on s i (omega arith) w.if-b-eq-QUOTE.false, ap (λ (k : Bool). string_length k (drop i s)) w.if-skip.false))
    ]

pub returns : goal.returns
returns c = omega (arith, c.loop-at.invariant, string_end c.args.s.now c.loop-at.at (omega arith) c.loop-at.skip)
