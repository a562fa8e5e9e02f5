-- What follows from the start of the line on begins with its key.
use Rattle.std.proofs.Common.{length, sym}
use Rattle.text_rules.specs.Search.{part}
use Rattle.key_lines.specs.Keys.{text_of}
use Rattle.key_lines.specs.Meets.{part-begins}
use Rattle.key_lines.proofs.LineKeys.{found-meets, plain-inside, plain-inside-key}
use Rattle.key_lines.proofs.line_at.Goals as goal

pub invariant_of-result : goal.invariant_of-result
invariant_of-result c =
    let s = c.args.lines.now in
    let line = part c.args.from (length s) s in
    let begins = part-begins s c.args.from c.in-Some.l.name (plain-inside s c.args.from _ _ _ c.in-Some.ensures) in
    let own = rw (sym c.plain.ensures.0) at begins in
    record {
      inside = plain-inside-key s c.args.from _ _ _ c.in-Some.ensures c.plain.result c.plain.ensures.0 c.plain.ensures.1;
      meets = found-meets (text_of c.args.last) line _ c.common_with-common.result c.common_with-common.ensures own;
    }
