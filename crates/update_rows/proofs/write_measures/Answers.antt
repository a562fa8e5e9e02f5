-- `update_rows::write_measures` meets its contract: each part is written behind the one before.
use Rattle.listing.specs.Writes.{writes_last, writes_then}
use Rattle.update_rows.proofs.write_measures.Goals as goal

pub returns : goal.returns
returns c = writes_then c.number.ensures (writes_then c.text.ensures (writes_then c.number-2.ensures (writes_last c.text-2.ensures)))
