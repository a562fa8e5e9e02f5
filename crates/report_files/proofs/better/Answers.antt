-- `report_files::better` meets its contract: the best so far stays, unless the file fits and goes first.
use Prim.Native.Nat.{◌<◌}
use mathlib.Core.Path.{◌∙◌, ◌≡◌, ap, subst, sym}
use native.Mathlib.Omega.{arith}
use lib.ListN.{length}
use Rattle.gate_rules.specs.Report.{heavier}
use Rattle.gate_rules.proofs.RowOrders.{heavier_orders}
use Rattle.gate_rules.specs.Tree.{file_count}
use Rattle.order.specs.Chosen.{chosen_better, chosen-first, chosen_unfit, chosen-worse}
use Rattle.report_files.specs.Files.{FileChosen, IsFile, number_in}
use Rattle.report_files.specs.Weights.{is_listed, listed, listed-count, no_weight}
use Rattle.report_files.proofs.better.Goals as goal

pub returns-then-not-is_next-clause-chosen : goal.returns-then-not-is_next-clause-chosen
returns-then-not-is_next-clause-chosen c seen h =
    let a = c.args in
    let tree = a.totals.now.tree.now in
    chosen_unfit heavier heavier_orders no_weight (listed tree) is_listed (number_in tree a.last) seen (number_in tree a.best) a.k h (c.is_next.ensures.no c.if-not-is_next.true)

pub returns-in-None-clause-chosen : goal.returns-in-None-clause-chosen
returns-in-None-clause-chosen c seen h =
    let a = c.args in
    let tree = a.totals.now.tree.now in
    let ws = listed tree in
    let other : a.k ≡ length ws → ⊥ = λ e. omega (arith, e, c.requires.2, listed-count tree) in
    chosen-first heavier heavier_orders no_weight ws is_listed (number_in tree a.last) seen (number_in tree a.best) a.k h other (c.is_next.ensures.yes c.if-not-is_next.false)
    (ap (number_in tree) c.in-None.is ∙ sym (listed-count tree))

pub returns-then-goes_first-clause-chosen : goal.returns-then-goes_first-clause-chosen
returns-then-goes_first-clause-chosen c seen h =
    let a = c.args in
    let tree = a.totals.now.tree.now in
    let ws = listed tree in
    let other : a.k ≡ length ws → ⊥ = λ e. omega (arith, e, c.requires.2, listed-count tree) in
    let inside : c.in-Some.other < file_count tree = subst (IsFile tree) c.in-Some.is c.requires.1 in
    let best = subst (FileChosen tree (number_in tree a.last) seen) (ap (number_in tree) c.in-Some.is) h in
    chosen_better heavier heavier_orders no_weight ws is_listed (number_in tree a.last) seen c.in-Some.other a.k best other (c.is_next.ensures.yes c.if-not-is_next.false)
    (λ e. omega (arith, e, inside, listed-count tree)) (sym c.goes_first.ensures ∙ c.if-goes_first.true)

pub returns-else-goes_first-clause-chosen : goal.returns-else-goes_first-clause-chosen
returns-else-goes_first-clause-chosen c seen h =
    let a = c.args in
    let tree = a.totals.now.tree.now in
    let ws = listed tree in
    let other : a.k ≡ length ws → ⊥ = λ e. omega (arith, e, c.requires.2, listed-count tree) in
    let inside : c.in-Some.other < file_count tree = subst (IsFile tree) c.in-Some.is c.requires.1 in
    let best = subst (FileChosen tree (number_in tree a.last) seen) (ap (number_in tree) c.in-Some.is) h in
    chosen-worse heavier heavier_orders no_weight ws is_listed (number_in tree a.last) seen c.in-Some.other a.k best other (c.is_next.ensures.yes c.if-not-is_next.false)
    (λ e. omega (arith, e, inside, listed-count tree)) (sym c.goes_first.ensures ∙ c.if-goes_first.false)
