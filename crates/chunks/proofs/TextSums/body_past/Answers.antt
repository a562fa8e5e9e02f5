-- `chunks::TextSums::body_past` meets its contract: the brackets of a chunk are few, so what is counted behind it is a number.
use Rattle.std.proofs.Common.{◌+◌, arith}
use Rattle.chunks.specs.PastLaws.{brackets_most, counted_further}
use Rattle.chunks.proofs.TextSums.body_past.Goals as goal

pub counts_past-requires : goal.counts_past-requires
counts_past-requires c =
    let a = c.args in
    let y = c.in_ok-c.ensures.covers in
    let b = brackets_most _ a.at (a.at + 4096) c.in_ok-c.c (omega arith) y.passing in
    (b.0, b.1, b.2, counted_further a.n a.at 9223372036854775807 (omega (arith, y.inside)) c.requires)
