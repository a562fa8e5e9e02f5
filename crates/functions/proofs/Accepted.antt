-- Where the records stand the tree is accepted.
use Prim.Native.Nat.{ℕ}
use mathlib.Core.List.{List}
use Rattle.gate_rules.specs.Gate.{gate}
use Rattle.gate_rules.specs.Scan.{Accepted}
use Rattle.functions.specs.Shown.{Stand}

pub accepted : (tree lent : List ℕ) → Stand tree lent → Accepted gate tree
unfolding gate
accepted tree lent s = record { unrefused = s.unrefused; few = s.few }
