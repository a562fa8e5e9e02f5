-- `check_texts::verdict_length` meets its contract: the bytes are those of the text's parts.
use native.Mathlib.Omega.{arith}
use Rattle.check_texts.specs.Texts.{some-worse}
use Rattle.check_texts.proofs.verdict_length.Goals as goal

pub returns : goal.returns
returns c =
    let worse = c.args.worse in
    let digits = c.digits.ensures in
    let some = some-worse worse.count worse.bytes (omega (arith, c.if-worse-eq0.false)) in
    (omega arith, omega arith)
