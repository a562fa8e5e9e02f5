-- `complexity_check::put_answer` meets its contract: what it puts is what the definition prints.
use mathlib.Core.Path.{refl, ap, ◌∙◌}
use mathlib.Core.List.{[], ◌∷◌, ◌++◌}
use Rattle.answers.proofs.NumbersLaws.{number_least}
use Rattle.text_rules.specs.Decimal.{decimal}
use Rattle.programs.specs.Lines.{line-fits}
use Rattle.complexity_check.specs.Printed.{listing-printed, long-printed, refused-printed}
use Rattle.complexity_check.proofs.put_answer.Goals as goal

pub put_refusal-requires : goal.put_refusal-requires
put_refusal-requires c = line-fits c.args.output.now c.requires.2

pub returns-in-Err : goal.returns-in-Err
returns-in-Err c =
    let a = c.args in
    let e = c.put_refusal.ensures in
    (e.0, e.1 ∙ ap (λ n. decimal n ++ 10 ∷ []) c.from.ensures ∙ long-printed a.tree.now a.baseline.now _ c.in-Err.ensures (number_least c.in-Err.refusal))

pub returns-in-Ok : goal.returns-in-Ok
returns-in-Ok c =
    let a = c.args in
    listing-printed a.tree.now a.baseline.now a.work.now a.lent.now a.output.now c.requires.0 c.requires.1 c.requires.2 c.in_default.ensures _ _ _ _ c.in-Ok.ensures refl

pub returns-in-Err-check : goal.returns-in-Err-check
returns-in-Err-check c =
    let a = c.args in
    let e = c.put_refusal-in-Err-check.ensures in (
      e.0,
      e.1 ∙ ap (λ n. decimal n ++ 10 ∷ []) c.from-in-Err-check.ensures
          ∙ refused-printed a.tree.now a.baseline.now a.work.now a.lent.now a.output.now c.requires.0 c.requires.1 c.requires.2 c.in_default.ensures _ _ _ _ c.in-Err-check.ensures (number_least c.in-Err-check.refusal),
    )
