-- `mean::write_tenths` meets its contract: each part is put behind the one before.
use Rattle.listing.specs.Writes.{writes_last, writes_then}
use Rattle.mean.proofs.write_tenths.Goals as goal

pub returns : goal.returns
returns c = writes_then c.number.ensures (writes_then c.text.ensures (writes_last c.number-2.ensures))
