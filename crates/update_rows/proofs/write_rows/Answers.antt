-- `update_rows::write_rows` meets its contract: at each turn the rows of the functions that are still to take are still to be written.
use mathlib.Core.Path.{ap, subst, ◌∙◌}
use native.Mathlib.Omega.{arith}
use lib.ListN.{length}
use Rattle.gate_rules.specs.Gate.{gate}
use Rattle.gate_rules.specs.Scan.{functions_of}
use Rattle.gate_rules.specs.Update.{row_before, rows}
use Rattle.functions.specs.Shown.{limits_of, shown}
use Rattle.gate_rules.proofs.RowOrders.{row_orders}
use Rattle.ranking.specs.Ranks.{to_take}
use Rattle.listing.specs.Writes.{Writes, remains_all, remains_next, remains_none, remains_room}
use Rattle.update_rows.specs.Rows.{lined, no_rows, one-row, recorded-is}
use Rattle.update_rows.proofs.write_rows.Goals as goal

pub loop-f-init : goal.loop-f-init
loop-f-init c =
    let listed = ap (to_take row_before row_orders) c.into_iter-f-iterator.ensures.into_iter_gives ∙ c.new-f-items.ensures.all_left ∙ recorded-is (limits_of c.args.limits) (functions_of gate c.args.functions.tree.now) in
    remains_all (omega (arith, c.requires, ap (λ fs. length (rows fs)) listed))

pub write_row-requires : goal.write_row-requires
write_row-requires c =
    let f = shown c.in-Some.f in
    let left = to_take row_before row_orders c.next.new.self in
    remains_room (lined f) (rows left) c.loop-f.invariant (ap rows c.in-Some.ensures.steps ∙ one-row f left)

pub loop-f-preserved : goal.loop-f-preserved
loop-f-preserved c =
    let f = shown c.in-Some.f in
    let left = to_take row_before row_orders c.next.new.self in
    remains_next (rows left) c.loop-f.invariant (ap rows c.in-Some.ensures.steps ∙ one-row f left) c.write_row.ensures

pub returns : goal.returns
returns c =
    let listed = ap (to_take row_before row_orders) c.into_iter-f-iterator.ensures.into_iter_gives ∙ c.new-f-items.ensures.all_left ∙ recorded-is (limits_of c.args.limits) (functions_of gate c.args.functions.tree.now) in
    subst (λ fs. Writes (rows fs) c.args.w.now c.loop-f.w) listed (remains_none c.loop-f.invariant (ap rows c.in-None.ensures.steps.0 ∙ no_rows))
