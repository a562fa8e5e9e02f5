-- `live::any_has` meets its contract: none of the functions that were asked has the key.
use mathlib.Core.Path.{ap, refl, sym, ◌∙◌}
use mathlib.Core.Bool.{true, false}
use native.Mathlib.Omega.{arith}
use Rattle.text_rules.specs.Bytes.{same}
use Rattle.text_rules.specs.BytesLaws.{true_false}
use Rattle.gate_rules.specs.Gate.{gate}
use Rattle.gate_rules.specs.Scan.{functions_of}
use Rattle.gate_rules.specs.Functions.{key}
use Rattle.live.specs.Live.{none_more, one-live}
use Rattle.live.proofs.any_has.Goals as goal

pub loop-k-init : goal.loop-k-init
loop-k-init c = (omega arith, λ i a b. absurd (omega arith))

pub returns-then-has_key : goal.returns-then-has_key
returns-then-has_key c =
    let k = c.args.bytes.now in
    let here = sym (c.has_key.ensures ∙ ap (λ f. same k (key f)) c.get.ensures) ∙ c.if-has_key.true in
    record { live = λ e. one-live k (functions_of gate c.args.fs.tree.now) c.loop-k.k (omega (arith, c.requires, c.args.fs.all)) here; dead = λ e. absurd (true_false true refl e) }

pub loop-k-preserved : goal.loop-k-preserved
loop-k-preserved c =
    let k = c.args.bytes.now in
    let here = sym (c.has_key.ensures ∙ ap (λ f. same k (key f)) c.get.ensures) ∙ c.if-has_key.false in
    (omega arith, none_more k (functions_of gate c.args.fs.tree.now) c.args.numbers.from c.loop-k.k c.loop-k.invariant.1 here)

pub returns : goal.returns
returns c = record { live = λ e. absurd (true_false false e refl); dead = λ e i a b. c.loop-k.invariant.1 i a (omega (arith, b, c.loop-k-test.false)) }
