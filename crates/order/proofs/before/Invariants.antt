-- `order::before` meets its contract: where the texts agree up to a place, the order of the rests is the order of the texts.
use Rattle.std.proofs.Common.{◌≡◌, drop}
use Rattle.text_rules.specs.Bytes.{before}
use Rattle.order.proofs.before.Given as goal

abbrev pub invariant-loop-i : goal.invariant-loop-i
invariant-loop-i l = before (drop l.i l.s) (drop l.i l.t) ≡ before l.s l.t
