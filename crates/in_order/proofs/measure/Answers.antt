-- What is counted, and what the lines still to come add, is the whole.
use Rattle.std.proofs.Common.{◌≡◌, refl, ◌≢◌, ℕ, true, ap, sym, ◌∙◌, get_or, arith}
use Rattle.std.specs.Option.{is_some}
use Rattle.text_rules.specs.BytesLaws.{true_false}
use Rattle.baseline.specs.Ordered.{fallen}
use Rattle.key_lines.specs.Keys.{is_plain, text_of}
use Rattle.in_order.specs.Known.{known_of}
use Rattle.in_order.proofs.Measuring.{measured-next, measured-rises, measured-sizes, measured-whole, run-fits, step-fits}
use Rattle.in_order.proofs.measure.Goals.{then-whole, else-whole}
use Rattle.in_order.proofs.measure.Goals as goal

pub plus-requires-clause-count_fits : goal.plus-requires-clause-count_fits
plus-requires-clause-count_fits c =
    let s = c.args.baseline.lines.now in
    let fits = step-fits c.args.functions.tree.now s _ c.next.new.self c.next.new.self _ c.loop-step.size c.size.result c.size.result c.in-Some.step c.loop-step.invariant c.in-Some.ensures.steps.advances
    c.size.ensures.count c.size.ensures.bytes c.requires in
    omega (arith, fits, c.args.baseline.short)

pub plus-requires-clause-bytes_fit : goal.plus-requires-clause-bytes_fit
plus-requires-clause-bytes_fit c =
    let s = c.args.baseline.lines.now in
    let fits = step-fits c.args.functions.tree.now s _ c.next.new.self c.next.new.self _ c.loop-step.size c.size.result c.size.result c.in-Some.step c.loop-step.invariant c.in-Some.ensures.steps.advances
    c.size.ensures.count c.size.ensures.bytes c.requires in
    omega (arith, fits, c.args.baseline.short)

pub plus-size-requires-clause-count_fits : goal.plus-size-requires-clause-count_fits
plus-size-requires-clause-count_fits c =
    let s = c.args.baseline.lines.now in
    let fits = run-fits c.args.functions.tree.now s _ c.next.new.self c.run.new.self _ c.loop-step.size c.size.result c.run.result c.in-Some.step c.loop-step.invariant c.in-Some.ensures.steps.advances
    c.size.ensures.count c.size.ensures.bytes c.run.ensures c.requires in
    omega (arith, fits, c.plus.ensures.count, c.args.baseline.short)

pub plus-size-requires-clause-bytes_fit : goal.plus-size-requires-clause-bytes_fit
plus-size-requires-clause-bytes_fit c =
    let s = c.args.baseline.lines.now in
    let fits = run-fits c.args.functions.tree.now s _ c.next.new.self c.run.new.self _ c.loop-step.size c.size.result c.run.result c.in-Some.step c.loop-step.invariant c.in-Some.ensures.steps.advances
    c.size.ensures.count c.size.ensures.bytes c.run.ensures c.requires in
    omega (arith, fits, c.plus.ensures.bytes, c.args.baseline.short)

pub loop-step-preserved : goal.loop-step-preserved
loop-step-preserved c =
    let s = c.args.baseline.lines.now in
    let now = c.loop-step in
    let step = c.in-Some.step in
    let h = c.in-Some.ensures.steps.advances in
    let up = ap (λ o. fallen (text_of o) (text_of step.found.key)) (sym h.before) ∙ sym c.falls.ensures ∙ c.if-falls.false in
    let stays : c.if-whole.whole ≡ true → (now.whole ≡ true) × (get_or s now.walk.from 0 ≢ 35 → (is_plain step.found.key ≡ true) × (is_some step.added ≡ true)) =
    λ e. elim c.if-whole.branch [
      | then-whole w ↦ (w.if-whole.true, λ n. w.stays_whole-whole.ensures (sym w.whole-is ∙ e) (λ q. n (ap (λ (i : ℕ). get_or s i 0) (sym h.begins) ∙ q)))
      | else-whole w ↦ absurd (true_false _ e (w.whole-is ∙ w.if-whole.false))
    ] in
    measured-next c.args.functions.tree.now s now.walk c.next.new.self c.run.new.self now.whole now.size c.size.result c.run.result step now.invariant h
    c.size.ensures.count c.size.ensures.bytes c.run.ensures c.plus-size.result
    (omega (arith, c.plus-size.ensures.count, c.plus.ensures.count)) (omega (arith, c.plus-size.ensures.bytes, c.plus.ensures.bytes)) c.if-whole.whole up stays

pub invariant_of-result : goal.invariant_of-result
invariant_of-result c =
    let now = c.loop-step in
    let s = c.args.baseline.lines.now in
    let tree = c.args.functions.tree.now in
    let over = c.in_default.ensures.steps in
    let rises = measured-rises tree s now.walk now.whole now.size now.invariant over in
    record {
      known = known_of tree s now.whole c.order_of.result c.order_of.ensures rises (measured-whole tree s now.walk now.whole now.size now.invariant over);
    }

pub returns : goal.returns
returns c =
    let now = c.loop-step in
    let s = c.args.baseline.lines.now in
    let tree = c.args.functions.tree.now in
    let over = c.in_default.ensures.steps in (
      refl,
      refl,
      measured-rises tree s now.walk now.whole now.size now.invariant over,
      measured-sizes tree s now.walk now.whole now.size now.invariant over c.requires c.args.baseline.short,
    )
