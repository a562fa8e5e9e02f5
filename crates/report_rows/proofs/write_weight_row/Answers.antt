-- `report_rows::write_weight_row` meets its contract: each part is put behind the one before.
use Rattle.listing.specs.Writes.{writes_last, writes_then}
use Rattle.report_rows.proofs.write_weight_row.Goals as goal

pub returns : goal.returns
returns c = writes_then c.justified.ensures (writes_then c.text.ensures (writes_then c.text-2.ensures (writes_last c.text-3.ensures)))
