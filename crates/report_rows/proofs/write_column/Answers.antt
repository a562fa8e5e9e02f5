-- `report_rows::write_column` meets its contract: each part is put behind the one before.
use Rattle.listing.specs.Writes.{writes_last, writes_then}
use Rattle.report_rows.proofs.write_column.Goals as goal

pub returns : goal.returns
returns c = writes_then c.justified.ensures (writes_last c.text.ensures)
