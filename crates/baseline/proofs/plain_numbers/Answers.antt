-- Both fields are numbers of at most nine digits, so the line has an entry.
use Rattle.baseline.proofs.PlainLines.{plain-line}
use Rattle.baseline.proofs.plain_numbers.Goals as goal

pub returns : goal.returns
returns c =
    let a = c.args in
    plain-line a.s.now a.from a.a a.b _ _ c.requires.0 c.requires.2 c.in_ok-c.ensures c.in_ok-end.ensures
