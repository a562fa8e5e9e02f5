-- The bytes of a line up to the name's end are the entry's key.
use Rattle.baseline.proofs.KeyBounds.{key-from, key-some}
use Rattle.baseline.proofs.key_with.Goals as goal

pub returns : goal.returns
returns c =
    let line = c.args.line.now in
    let e = c.entry_with.ensures in
    let l = c.in_ok-entry in (
      key-some line c.entry_with.result e.0 e.1 l.entry l.was,
      key-from line c.entry_with.result e.0 e.1 c.args.path e.2 l.entry l.was,
    )
