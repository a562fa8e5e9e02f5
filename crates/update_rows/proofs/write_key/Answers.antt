-- `update_rows::write_key` meets its contract: each part is written behind the one before.
use Rattle.listing.specs.Writes.{writes_last, writes_then}
use Rattle.update_rows.proofs.write_key.Goals as goal

pub returns : goal.returns
returns c = writes_then c.text.ensures (writes_then c.text-2.ensures (writes_then c.text-3.ensures (writes_last c.text-4.ensures)))
