-- `lookup::key_behind` meets its contract: of two texts that differ one stands before the other.
use mathlib.Core.Path.{ap, sym, ◌∙◌}
use mathlib.Core.Bool.{not}
use Rattle.baseline.specs.Reads.{key_bytes}
use Rattle.lookup.proofs.KeyOrder.{other-behind, same-behind}
use Rattle.lookup.proofs.key_behind.Goals as goal

pub returns-then-is : goal.returns-then-is
returns-then-is c =
    let a = c.args in
    sym (same-behind a.key.now (key_bytes a.sought) (sym c.is.ensures ∙ c.if-is.true))

pub returns : goal.returns
returns c =
    let a = c.args in
    ap not c.key_before.ensures ∙ other-behind a.key.now (key_bytes a.sought) (sym c.is.ensures ∙ c.if-is.false)
