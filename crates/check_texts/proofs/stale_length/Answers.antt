-- `check_texts::stale_length` meets its contract: the bytes are those of the text's parts.
use native.Mathlib.Omega.{arith}
use Rattle.check_texts.specs.Texts.{some-stale}
use Rattle.check_texts.proofs.stale_length.Goals as goal

pub returns : goal.returns
returns c =
    let keys = c.args.keys in
    let digits = c.digits.ensures in
    let some = some-stale keys.count keys.bytes (omega (arith, c.if-keys-eq0.false)) in
    (omega arith, omega arith)
