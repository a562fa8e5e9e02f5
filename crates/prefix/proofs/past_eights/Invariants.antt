-- `prefix::past_eights` meets its contract: what the texts have in common is what was passed, and what they have from there on.
use Prim.Native.Nat.{◌+◌, ◌*◌}
use mathlib.Core.Path.{◌≡◌}
use lib.ListN.{drop}
use Rattle.prefix.specs.Common.{common}
use Rattle.prefix.proofs.past_eights.Given as goal

abbrev pub invariant-loop-k : goal.invariant-loop-k
invariant-loop-k l = 8 * l.k + common (drop (8 * l.k) l.s) (drop (8 * l.k) l.t) ≡ common l.s l.t
