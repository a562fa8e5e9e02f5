-- `listing::Writer::counted` meets its contract: each part is put behind the one before.
use Rattle.listing.specs.Writes.{writes_last, writes_then}
use Rattle.listing.proofs.Writer.counted.Goals as goal

pub returns : goal.returns
returns c = writes_then c.text.ensures (writes_then c.number.ensures (writes_last c.text-2.ensures))
