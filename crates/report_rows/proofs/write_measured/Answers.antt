-- `report_rows::write_measured` meets its contract: each part is put behind the one before.
use Rattle.listing.specs.Writes.{writes_last, writes_then}
use Rattle.report_rows.proofs.write_measured.Goals as goal

pub returns : goal.returns
returns c =
    writes_then c.write_column.ensures (writes_then c.write_column-2.ensures (writes_then c.write_column-3.ensures (writes_then c.justified.ensures
    (writes_last c.text.ensures))))
