-- `report_files::is_next` meets its contract: with a function, and behind the last file if there is one.
use mathlib.Core.Path.{◌∙◌, ap, subst, sym}
use Prim.Native.Nat.{◌<◌}
use native.Mathlib.Omega.{arith}
use Rattle.gate_rules.specs.Report.{heavier}
use Rattle.gate_rules.proofs.RowOrders.{heavier_orders}
use Rattle.gate_rules.specs.Tree.{file_count}
use Rattle.order.specs.Chosen.{Decides, always, fit_decided, fit_first}
use Rattle.report_files.specs.Files.{FileFit, IsFile, file_at, number_in}
use Rattle.report_files.specs.Weights.{is_listed, listed, listed-count, listed-some, no_weight}
use Rattle.report_files.proofs.is_next.Goals as goal

pub returns-in-None : goal.returns-in-None
returns-in-None c =
    let tree = c.args.totals.now.tree.now in
    always (fit_first heavier heavier_orders no_weight (listed tree) is_listed (number_in tree c.args.last) c.args.k
    (listed-some tree c.args.k c.requires.1 (λ e. c.if-sum_at-eq0.false (c.sum_at.ensures ∙ e))) (ap (number_in tree) c.in-None.is ∙ sym (listed-count tree)))

pub returns-in-Some : goal.returns-in-Some
returns-in-Some c =
    let tree = c.args.totals.now.tree.now in
    let inside : c.in-Some.last < file_count tree = subst (IsFile tree) c.in-Some.is c.requires.0 in
    subst (λ o. Decides (FileFit tree (number_in tree o) (file_at tree c.args.k)) c.goes_first.result) (sym c.in-Some.is)
    (fit_decided heavier heavier_orders no_weight (listed tree) is_listed c.in-Some.last c.args.k c.goes_first.result
    (listed-some tree c.args.k c.requires.1 (λ e. c.if-sum_at-eq0.false (c.sum_at.ensures ∙ e))) (λ e. omega (arith, e, inside, listed-count tree)) c.goes_first.ensures)
