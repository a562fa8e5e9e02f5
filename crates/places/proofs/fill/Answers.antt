-- Each line gives its place to the functions that it lists, so the last of several stays.
use Rattle.std.proofs.Common.{arith, ap, subst, sym, ◌∙◌}
use Rattle.std.specs.Prelude.{◌+◌, length}
use Rattle.std.proofs.Math.Option.{none, some}
use Rattle.gate_rules.specs.Gate.{gate}
use Rattle.gate_rules.specs.Scan.{functions_of}
use Rattle.baseline.specs.LinesOf.{LineAt}
use Rattle.baseline.specs.Reads.{key_text}
use Rattle.places.specs.Places.{Marks}
use Rattle.places.specs.Marking.{Seen, marks_none, seen_end, seen_next, seen_start}
use Rattle.places.proofs.fill.Goals as goal

pub loop-line-init : goal.loop-line-init
loop-line-init c =
    let a = c.args in
    let s = a.baseline.lines.now in
    let fs = functions_of gate a.fs.tree.now in
    let lines = c.into_iter-line-iterator.ensures.into_iter_gives in (
      ap (λ i. i.text.now) lines ∙ c.of-line-items.ensures.0,
      subst (λ n. Seen s fs n a.places.now) (sym (ap (λ i. i.at) lines ∙ c.of-line-items.ensures.1))
          (seen_start s fs a.places.now (omega (arith, a.fs.all, a.fs.stand.few, c.fits-places)) (λ k h. c.requires k (omega (arith, a.fs.all)))),
    )

pub loop-line-preserved-in-Some-key : goal.loop-line-preserved-in-Some-key
loop-line-preserved-in-Some-key c =
    let a = c.args in
    let s = a.baseline.lines.now in
    let fs = functions_of gate a.fs.tree.now in
    let at = c.loop-line.line-iterator.at in
    let l = c.in-Some.line in
    let step = c.in-Some.ensures.steps in
    let line = subst (λ t. LineAt t at l) c.loop-line.invariant.0 step.1 in
    let marks = subst (λ n. Marks (some c.in-Some-key.key.now) (n + 1) fs c.loop-line.places c.mark.new.places) line.begins c.mark.ensures in (
      step.2 ∙ c.loop-line.invariant.0,
      subst (λ n. Seen s fs n c.mark.new.places) (sym step.3)
          (seen_next s fs at l line (some c.in-Some-key.key.now) c.loop-line.places c.mark.new.places c.loop-line.invariant.1 (omega (arith, step.0, ap length c.loop-line.invariant.0))
          (sym (ap key_text c.in-Some-key.is) ∙ c.key.ensures.0) marks),
    )

pub loop-line-preserved : goal.loop-line-preserved
loop-line-preserved c =
    let a = c.args in
    let s = a.baseline.lines.now in
    let fs = functions_of gate a.fs.tree.now in
    let at = c.loop-line.line-iterator.at in
    let l = c.in-Some.line in
    let step = c.in-Some.ensures.steps in
    let line = subst (λ t. LineAt t at l) c.loop-line.invariant.0 step.1 in (
      step.2 ∙ c.loop-line.invariant.0,
      subst (λ n. Seen s fs n c.loop-line.places) (sym step.3)
          (seen_next s fs at l line none c.loop-line.places c.loop-line.places c.loop-line.invariant.1 (omega (arith, step.0, ap length c.loop-line.invariant.0))
          (sym (ap key_text c.in_default.is) ∙ c.key.ensures.0) (marks_none (at + 1) fs c.loop-line.places)),
    )

pub returns : goal.returns
returns c =
    let a = c.args in
    seen_end a.baseline.lines.now (functions_of gate a.fs.tree.now) c.loop-line.line-iterator.at c.loop-line.places
    (omega (arith, c.in-None.ensures.steps, ap length c.loop-line.invariant.0)) c.loop-line.invariant.1
