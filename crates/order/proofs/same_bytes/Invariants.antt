-- Texts of one length agree from a place on.
use Rattle.std.proofs.Common.{◌≡◌, length, drop}
use Rattle.order.proofs.same_bytes.Given as goal

abbrev pub invariant-loop-i : goal.invariant-loop-i
invariant-loop-i l = (length l.s ≡ length l.t) × (drop l.i l.s ≡ drop l.i l.t)
