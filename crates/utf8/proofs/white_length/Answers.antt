-- White space is told from three bytes, and a byte past the end reads 0.
use Rattle.std.proofs.Common.{ap, sym}
use Rattle.utf8.specs.Awaits.{some_length}
use Rattle.utf8.proofs.White.{white_at, white_past}
use Rattle.utf8.proofs.white_length.Goals as goal

pub returns-then-s-at : goal.returns-then-s-at
returns-then-s-at c = ap some_length (sym (white_past _ _ c.if-s-at.true))

pub returns : goal.returns
returns c = cc (white_at c.args.s.now c.args.at)
