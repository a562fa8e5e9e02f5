-- No line that was read has an entry.
use Rattle.std.proofs.Common.{ap, subst, sym, ◌∙◌, arith}
use lib.ListN.{drop}
use Rattle.gate_rules.specs.Baseline.{entries_of_lines}
use Rattle.baseline.specs.LinesOf.{LineAt, line-onward}
use Rattle.baseline.specs.Reads.{key_text}
use Rattle.lookup.proofs.Halving.{lead_found, lead_past}
use Rattle.lookup.proofs.first_key.Goals as goal

pub returns-in-Some-key : goal.returns-in-Some-key
returns-in-Some-key c =
    let s = c.args.baseline.now in
    let l = c.in-Some.line in
    let at = c.loop-line.line-iterator.at in
    let h = subst (λ t. LineAt t at l) c.loop-line.invariant.0 c.in-Some.ensures.steps.1 in (
      omega (arith, line-onward s at l h, c.loop-line.invariant.1),
      lead_found s c.args.from at l c.loop-line.invariant.2 h _ (sym (ap key_text c.in-Some-key.is) ∙ c.key.ensures.0),
    )

pub loop-line-preserved : goal.loop-line-preserved
loop-line-preserved c =
    let s = c.args.baseline.now in
    let l = c.in-Some.line in
    let at = c.loop-line.line-iterator.at in
    let step = c.in-Some.ensures.steps in
    let h = subst (λ t. LineAt t at l) c.loop-line.invariant.0 step.1 in
    let past = lead_past s c.args.from at l c.loop-line.invariant.2 h (sym (ap key_text c.in_default.is) ∙ c.key.ensures.0) in (
      step.2 ∙ c.loop-line.invariant.0,
      omega (arith, line-onward s at l h, c.loop-line.invariant.1, step.3),
      past ∙ ap (λ n. entries_of_lines (drop n s)) (sym step.3),
    )
