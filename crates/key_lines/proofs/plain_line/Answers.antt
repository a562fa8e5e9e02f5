-- A line that begins with the path and the tab of a plain key goes on with the text that it has in common with it.
use Rattle.std.proofs.Common.{ap, ◌∙◌, arith, length}
use Rattle.text_rules.specs.Search.{part}
use Rattle.prefix.specs.Common.{common_with}
use Rattle.key_lines.specs.Keys.{text_of}
use Rattle.key_lines.specs.PlainKeys.{line-front}
use Rattle.key_lines.proofs.plain_line.Goals as goal

pub overflow_add-from-in-Some : goal.overflow_add-from-in-Some
overflow_add-from-in-Some c =
    let a = c.args in
    let s = a.lines.now in
    let l = c.in-Some.l in
    let e = c.requires.1 ∙ ap (λ o. common_with (text_of o) (part a.from (length s) s)) c.in-Some.is in
    let f = line-front s l.bytes.now a.from l.path a.common (l.plain_key c.if-l.true) c.requires.0 e c.if-l-common.true in
    record { fits = omega (arith, f.inside, c.well_formed) }

pub plain_rest-requires : goal.plain_rest-requires
plain_rest-requires c =
    let a = c.args in
    let s = a.lines.now in
    let l = c.in-Some.l in
    let e = c.requires.1 ∙ ap (λ o. common_with (text_of o) (part a.from (length s) s)) c.in-Some.is in
    line-front s l.bytes.now a.from l.path a.common (l.plain_key c.if-l.true) c.requires.0 e c.if-l-common.true
