-- The bytes up to the name's end are the entry's key.
use Rattle.std.proofs.Common.{sym, ◌∙◌}
use Rattle.baseline.specs.Reads.{key_bytes}
use Rattle.lookup.proofs.Finds.{line-hit, line_miss}
use Rattle.lookup.proofs.in_line.Goals as goal

pub returns-then-not-is : goal.returns-then-not-is
returns-then-not-is c =
    let a = c.args in
    line_miss (key_bytes a.sought) a.line.now c.entry.result c.entry.ensures.0 c.entry.ensures.1 c.in_ok-e.e c.in_ok-e.was
    (sym c.is.ensures ∙ c.if-not-is.true)

pub returns : goal.returns
returns c =
    let a = c.args in
    line-hit (key_bytes a.sought) a.line.now c.entry.result c.entry.ensures.0 c.entry.ensures.1 c.in_ok-e.e c.in_ok-e.was c.into.result c.into.ensures
    (sym c.is.ensures ∙ c.if-not-is.false)
