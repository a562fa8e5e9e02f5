-- The bytes that are passed are whole characters.
use Rattle.utf8.proofs.Wide.{ascii_to}
use Rattle.utf8.proofs.ascii_blocks.Goals as goal

pub returns : goal.returns
returns c =
    let p = c.past_ascii.ensures in
    (p.low, p.high, ascii_to c.args.s.now c.args.from c.past_ascii.result p.low p.high p.ascii)
