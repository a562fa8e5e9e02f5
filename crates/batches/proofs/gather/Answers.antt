-- The keys that are held and those of the lines to come give the same keys at every line.
use Rattle.std.proofs.Common.{◌+◌, ◌<◌, ◌≡◌, ap, arith, length, subst, sym, ◌∙◌}
use Rattle.text_rules.specs.Search.{part}
use Rattle.gate_rules.specs.Gate.{gate}
use Rattle.gate_rules.specs.Scan.{functions_of}
use Rattle.baseline.specs.LinesOf.{LineAt}
use Rattle.baseline.specs.Reads.{key_text}
use Rattle.batches.proofs.Lines.{Upto, key_inside, key_stands, upto_end, upto_key, upto_none}
use Rattle.batches.proofs.gather.Goals as goal

pub add_key-requires-clause-stands : goal.add_key-requires-clause-stands
add_key-requires-clause-stands c =
    let s = c.args.baseline.lines.now in
    let now = c.loop-line in
    let at = now.line-iterator.at in
    let l = c.in-Some.line in
    let step = c.in-Some.ensures.steps in
    let h = subst (λ t. LineAt t at l) now.invariant.0 step.1 in
    let inside : at < length s = omega (arith, step.0, ap length now.invariant.0) in
    let k = c.in-Some-key_with.key.now in
    let front = c.in-Some-key_with.ensures.1 in
    subst (λ n. part n (n + length k) now.keys.lines ≡ k) (sym h.begins)
    (subst (λ t. part at (at + length k) t ≡ k) (sym now.invariant.1) (key_stands s at l h inside k front.0 front.2))

pub add_key-requires-clause-inside : goal.add_key-requires-clause-inside
add_key-requires-clause-inside c =
    let s = c.args.baseline.lines.now in
    let now = c.loop-line in
    let at = now.line-iterator.at in
    let l = c.in-Some.line in
    let step = c.in-Some.ensures.steps in
    let h = subst (λ t. LineAt t at l) now.invariant.0 step.1 in
    let inside : at < length s = omega (arith, step.0, ap length now.invariant.0) in
    let front = c.in-Some-key_with.ensures.1 in
    omega (arith, key_inside s at l h inside c.in-Some-key_with.key.now front.0 front.2, h.begins, ap length now.invariant.1)

pub loop-line-preserved-in-Some-key_with : goal.loop-line-preserved-in-Some-key_with
loop-line-preserved-in-Some-key_with c =
    let s = c.args.baseline.lines.now in
    let fs = functions_of gate c.args.fs.tree.now in
    let last = key_text c.args.last in
    let now = c.loop-line in
    let at = now.line-iterator.at in
    let l = c.in-Some.line in
    let step = c.in-Some.ensures.steps in
    let h = subst (λ t. LineAt t at l) now.invariant.0 step.1 in
    let new = c.add_key.new.keys.keys in (
      step.2 ∙ now.invariant.0,
      c.add_key.ensures.lines ∙ now.invariant.1,
      subst (Upto fs last s new) (sym step.3)
          (upto_key fs last s now.keys.keys new at l h c.in-Some-key_with.key.now c.in-Some-key_with.ensures.0 c.add_key.ensures.keys now.invariant.2),
    )

pub loop-line-preserved : goal.loop-line-preserved
loop-line-preserved c =
    let s = c.args.baseline.lines.now in
    let fs = functions_of gate c.args.fs.tree.now in
    let last = key_text c.args.last in
    let now = c.loop-line in
    let at = now.line-iterator.at in
    let l = c.in-Some.line in
    let step = c.in-Some.ensures.steps in
    let h = subst (λ t. LineAt t at l) now.invariant.0 step.1 in (
      step.2 ∙ now.invariant.0,
      now.invariant.1,
      subst (Upto fs last s now.keys.keys) (sym step.3) (upto_none fs last s now.keys.keys at l h (sym (ap key_text c.in_default.is) ∙ c.key_with.ensures.0) now.invariant.2),
    )

pub returns : goal.returns
returns c =
    let now = c.loop-line in
    upto_end (functions_of gate c.args.fs.tree.now) (key_text c.args.last) c.args.baseline.lines.now now.keys.keys now.line-iterator.at
    (omega (arith, c.in-None.ensures.steps, ap length now.invariant.0)) now.invariant.2
