-- `report_functions::write_rows` meets its contract: at each turn the rows of the functions that are still to take are still to be written.
use mathlib.Core.Path.{ap, subst, ◌∙◌}
use native.Mathlib.Omega.{arith}
use lib.ListN.{length}
use Rattle.gate_rules.specs.Gate.{gate}
use Rattle.gate_rules.specs.Scan.{functions_of}
use Rattle.gate_rules.specs.Report.{report_row, report_rows, worse}
use Rattle.functions.specs.Shown.{limits_of, shown}
use Rattle.gate_rules.proofs.RowOrders.{worse_orders}
use Rattle.ranking.specs.Ranks.{to_take}
use Rattle.listing.specs.Writes.{Writes, remains_all, remains_next, remains_none, remains_room}
use Rattle.report_functions.specs.Rows.{no_rows, one-row, reported-is}
use Rattle.report_functions.proofs.write_rows.Goals as goal

pub loop-f-init : goal.loop-f-init
loop-f-init c =
    let listed = ap (to_take worse worse_orders) c.into_iter-f-iterator.ensures.into_iter_gives ∙ c.new-f-items.ensures.all_left ∙ reported-is (limits_of c.args.limits) (functions_of gate c.args.functions.tree.now) in
    remains_all (omega (arith, c.requires, ap (λ fs. length (report_rows fs)) listed))

pub write_report_row-requires : goal.write_report_row-requires
write_report_row-requires c =
    let f = shown c.in-Some.f in
    let left = to_take worse worse_orders c.next.new.self in
    remains_room (report_row f) (report_rows left) c.loop-f.invariant (ap report_rows c.in-Some.ensures.steps ∙ one-row f left)

pub loop-f-preserved : goal.loop-f-preserved
loop-f-preserved c =
    let f = shown c.in-Some.f in
    let left = to_take worse worse_orders c.next.new.self in
    remains_next (report_rows left) c.loop-f.invariant (ap report_rows c.in-Some.ensures.steps ∙ one-row f left) c.write_report_row.ensures

pub returns : goal.returns
returns c =
    let listed = ap (to_take worse worse_orders) c.into_iter-f-iterator.ensures.into_iter_gives ∙ c.new-f-items.ensures.all_left ∙ reported-is (limits_of c.args.limits) (functions_of gate c.args.functions.tree.now) in
    subst (λ fs. Writes (report_rows fs) c.args.w.now c.loop-f.w) listed (remains_none c.loop-f.invariant (ap report_rows c.in-None.ensures.steps.0 ∙ no_rows))
