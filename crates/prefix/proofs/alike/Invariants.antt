-- `prefix::alike` meets its contract: while the bytes before the i-th are the same, the flag holds.
use Prim.Native.Nat.{◌+◌}
use mathlib.Core.Path.{◌≡◌}
use mathlib.Core.Bool.{true}
use lib.ListN.{drop}
use Rattle.prefix.specs.Common.{common}
use Rattle.prefix.proofs.alike.Given as goal

abbrev pub invariant-loop-i : goal.invariant-loop-i
invariant-loop-i l = l.all ≡ true → common (drop l.at l.s) (drop l.at l.t) ≡ l.i + common (drop (l.at + l.i) l.s) (drop (l.at + l.i) l.t)
