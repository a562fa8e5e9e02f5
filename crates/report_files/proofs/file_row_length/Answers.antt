-- `report_files::file_row_length` meets its contract: sum and path are the file's.
use mathlib.Core.Path.{◌∙◌, ap₂, sym}
use Rattle.report_rows.specs.Texts.{weight-length, weight_length}
use Rattle.report_files.specs.Weights.{weight_at}
use Rattle.report_files.proofs.file_row_length.Goals as goal

pub returns : goal.returns
returns c =
    let r = c.weight_row_length.ensures in
    let w = weight_at c.args.totals.now.tree.now c.args.k in
    (r.0 ∙ ap₂ weight_length c.sum_at.ensures c.path_at.ensures.0 ∙ sym (weight-length w.sum w.path), r.1)
