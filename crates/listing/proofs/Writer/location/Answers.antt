-- `listing::Writer::location` meets its contract: each part is put behind the one before.
use Rattle.std.proofs.Common.{subst}
use Rattle.text_rules.specs.Decimal.{decimal}
use Rattle.listing.specs.Writes.{Writes, writes_last, writes_then}
use Rattle.listing.proofs.Writer.location.Goals as goal

pub returns : goal.returns
returns c =
    let line = subst (λ n. Writes (decimal n) c.text-2.new.self c.number.new.self) c.from.ensures c.number.ensures in
    writes_then c.text.ensures (writes_then c.text-2.ensures (writes_then line (writes_then c.text-3.ensures (writes_last c.text-4.ensures))))
