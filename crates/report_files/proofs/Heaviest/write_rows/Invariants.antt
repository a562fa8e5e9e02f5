-- `report_files::Heaviest::write_rows` meets its contract: at each turn the rows that are left are still to be written.
use Rattle.std.specs.Prelude.{◌<◌, drop}
use Rattle.gate_rules.specs.Report.{weight_rows}
use Rattle.gate_rules.specs.Tree.{file_count}
use Rattle.listing.specs.Writes.{Remains}
use Rattle.text_rules.specs.Bytes.{All}
use Rattle.report_files.specs.Tops.{rows_of, weights_in}
use Rattle.report_files.proofs.Heaviest.write_rows.Given as goal

abbrev pub invariant-loop-k : goal.invariant-loop-k
invariant-loop-k l =
    let tree = l.self.totals.now.tree.now in
    let rest = drop l.k-index l.k-items in
    Remains (rows_of tree rest) (weight_rows (weights_in l.self)) l.initial.w l.w × All (λ k. k < file_count tree) rest
