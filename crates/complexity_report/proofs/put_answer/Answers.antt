-- `complexity_report::put_answer` meets its contract: what it puts is what the definition prints.
use mathlib.Core.Path.{refl, ap, ◌∙◌}
use mathlib.Core.List.{[], ◌∷◌, ◌++◌}
use native.Mathlib.Omega.{arith}
use Rattle.answers.proofs.NumbersLaws.{number_least}
use Rattle.text_rules.specs.Decimal.{decimal}
use Rattle.programs.specs.Lines.{line-fits}
use Rattle.complexity_report.specs.Printed.{listing-printed, refused-printed}
use Rattle.complexity_report.proofs.put_answer.Goals as goal

pub put_refusal-requires : goal.put_refusal-requires
put_refusal-requires c = line-fits c.args.output.now c.requires.2

pub put_refusal-requires-in-Err : goal.put_refusal-requires-in-Err
put_refusal-requires-in-Err c = omega (arith, line-fits c.args.output.now c.requires.2, c.report_alone.auto.output)

pub returns-in-Ok : goal.returns-in-Ok
returns-in-Ok c =
    let a = c.args in
    listing-printed a.tree.now a.work.now a.lent.now a.output.now c.requires.0 c.requires.1 c.requires.2 c.if-tree-gt-MOST.false _ _ _ _ c.in-Ok.ensures refl

pub returns-in-Err : goal.returns-in-Err
returns-in-Err c =
    let a = c.args in
    let e = c.put_refusal-in-Err.ensures in (
      e.0,
      e.1 ∙ ap (λ n. decimal n ++ 10 ∷ []) c.from-in-Err.ensures
          ∙ refused-printed a.tree.now a.work.now a.lent.now a.output.now c.requires.0 c.requires.1 c.requires.2 c.if-tree-gt-MOST.false _ _ _ _ c.in-Err.ensures (number_least c.in-Err.refusal),
    )
