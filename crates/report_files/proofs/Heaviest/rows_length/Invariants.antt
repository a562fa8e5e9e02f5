-- `report_files::Heaviest::rows_length` meets its contract: at each turn the bytes counted, and those of the rows that are left, make the whole.
use Rattle.std.specs.Prelude.{◌*◌, ◌+◌, ◌≤◌, ◌<◌, ◌≡◌, drop, length}
use Rattle.gate_rules.specs.Report.{weight_rows}
use Rattle.gate_rules.specs.Tree.{file_count}
use Rattle.text_rules.specs.Bytes.{All}
use Rattle.report_files.specs.Tops.{rows_of, weights_in}
use Rattle.report_files.proofs.Heaviest.rows_length.Given as goal

abbrev pub invariant-loop-k : goal.invariant-loop-k
invariant-loop-k l =
    let tree = l.self.totals.now.tree.now in
    let rest = drop l.k-index l.k-items in
    (l.bytes + length rest * 4294967400 ≤ 42949674000)
    × (l.bytes + length (rows_of tree rest) ≡ length (weight_rows (weights_in l.self)))
    × All (λ k. k < file_count tree) rest
