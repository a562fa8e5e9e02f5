-- `report_functions::write_rows` meets its contract: at each turn the rows of the functions that are still to take are still to be written.
use Rattle.gate_rules.specs.Report.{report_rows, worse}
use Rattle.gate_rules.proofs.RowOrders.{worse_orders}
use Rattle.listing.specs.Writes.{Remains}
use Rattle.ranking.specs.Ranks.{to_take}
use Rattle.report_functions.proofs.write_rows.Given as goal

abbrev pub invariant-loop-f : goal.invariant-loop-f
invariant-loop-f l = Remains (report_rows (to_take worse worse_orders l.f-iterator)) (report_rows (to_take worse worse_orders l.initial.f-iterator)) l.initial.w l.w
