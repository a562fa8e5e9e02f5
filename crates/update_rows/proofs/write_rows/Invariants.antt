-- `update_rows::write_rows` meets its contract: at each turn the rows of the functions that are still to take are still to be written.
use Rattle.gate_rules.specs.Update.{row_before, rows}
use Rattle.gate_rules.proofs.RowOrders.{row_orders}
use Rattle.listing.specs.Writes.{Remains}
use Rattle.ranking.specs.Ranks.{to_take}
use Rattle.update_rows.proofs.write_rows.Given as goal

abbrev pub invariant-loop-f : goal.invariant-loop-f
invariant-loop-f l = Remains (rows (to_take row_before row_orders l.f-iterator)) (rows (to_take row_before row_orders l.initial.f-iterator)) l.initial.w l.w
