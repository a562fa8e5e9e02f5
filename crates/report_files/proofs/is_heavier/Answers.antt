-- `report_files::is_heavier` meets its contract: the tests are the definition's.
use mathlib.Core.Path.{◌∙◌, ap₂, sym}
use native.Mathlib.Omega.{arith}
use Rattle.text_rules.specs.Bytes.{before}
use Rattle.report_files.specs.Files.{heavier-less, heavier-more, heavier-same}
use Rattle.report_files.specs.Weights.{weight_at}
use Rattle.report_files.proofs.is_heavier.Goals as goal

pub returns-then-other-sum : goal.returns-then-other-sum
returns-then-other-sum c =
    let tree = c.args.totals.now.tree.now in
    sym (heavier-more (weight_at tree c.args.j) (weight_at tree c.args.k) (omega (arith, c.sum_at-sum.ensures, c.sum_at-other.ensures, c.if-other-sum.true)))

pub returns-then-sum-other : goal.returns-then-sum-other
returns-then-sum-other c =
    let tree = c.args.totals.now.tree.now in
    let j = c.sum_at-sum.ensures in
    let k = c.sum_at-other.ensures in
    sym (heavier-less (weight_at tree c.args.j) (weight_at tree c.args.k) (omega (arith, j, k, c.if-other-sum.false)) (λ e. c.if-sum-other.true (j ∙ e ∙ sym k)))

pub returns : goal.returns
returns c =
    let tree = c.args.totals.now.tree.now in
    c.before-2.ensures
    ∙ ap₂ before c.path_at.ensures.0 c.path_at-2.ensures.0
    ∙ sym (heavier-same (weight_at tree c.args.j) (weight_at tree c.args.k) (sym c.sum_at-sum.ensures ∙ c.if-sum-other.false ∙ c.sum_at-other.ensures))
