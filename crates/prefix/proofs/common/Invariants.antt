-- `prefix::common` meets its contract: what the texts have in common is what they have up to a place, and what they have from there on.
use Prim.Native.Nat.{◌+◌}
use mathlib.Core.Path.{◌≡◌}
use lib.ListN.{drop}
use Rattle.prefix.specs.Common.{common}
use Rattle.prefix.proofs.common.Given as goal

abbrev pub invariant-loop-i : goal.invariant-loop-i
invariant-loop-i l = l.i + common (drop l.i l.s) (drop l.i l.t) ≡ common l.s l.t
