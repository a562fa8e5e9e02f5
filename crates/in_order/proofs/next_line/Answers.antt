-- A line that begins with the path and the tab of a plain key goes on with the text that it has in common with it.
use Rattle.std.proofs.Common.{arith}
use Rattle.key_lines.specs.PlainKeys.{line-front}
use Rattle.in_order.proofs.next_line.Goals as goal

pub plain_rest-requires : goal.plain_rest-requires
plain_rest-requires c =
    let a = c.args in
    line-front a.lines.now a.key.bytes.now a.from a.key.path c.common-shared.result (a.key.plain_key c.if-not-key.false) (omega (arith, c.if-lines-from.false))
    c.common-shared.ensures (omega (arith, c.if-shared-key.false))
