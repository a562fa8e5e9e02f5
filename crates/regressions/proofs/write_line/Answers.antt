-- `regressions::write_line` meets its contract: each part is put behind the one before.
use Rattle.listing.specs.Writes.{writes_last, writes_then}
use Rattle.regressions.proofs.write_line.Goals as goal

pub returns : goal.returns
returns c = writes_then c.write_start.ensures (writes_then c.write_pair.ensures (writes_last c.text.ensures))
