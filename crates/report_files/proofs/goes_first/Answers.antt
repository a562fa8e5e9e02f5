-- `report_files::goes_first` meets its contract: the heavier one, and where neither is, the one with the lower number.
use mathlib.Core.Path.{◌∙◌, sym}
use Rattle.gate_rules.specs.Report.{heavier}
use Rattle.gate_rules.proofs.RowOrders.{heavier_orders}
use Rattle.order.specs.Chosen.{first-less, first_more, first_tied}
use Rattle.report_files.specs.Weights.{listed, no_weight}
use Rattle.report_files.proofs.goes_first.Goals as goal

pub returns-then-is_heavier : goal.returns-then-is_heavier
returns-then-is_heavier c =
    let a = c.args in
    sym (first-less heavier heavier_orders no_weight (listed a.totals.now.tree.now) a.j a.k (sym c.is_heavier.ensures ∙ c.if-is_heavier.true))

pub returns-then-is_heavier-2 : goal.returns-then-is_heavier-2
returns-then-is_heavier-2 c =
    let a = c.args in
    sym (first_more heavier heavier_orders no_weight (listed a.totals.now.tree.now) a.j a.k (sym c.is_heavier-2.ensures ∙ c.if-is_heavier-2.true))

pub returns : goal.returns
returns c =
    let a = c.args in
    sym (first_tied heavier heavier_orders no_weight (listed a.totals.now.tree.now) a.j a.k (sym c.is_heavier.ensures ∙ c.if-is_heavier.false) (sym c.is_heavier-2.ensures ∙ c.if-is_heavier-2.false))
