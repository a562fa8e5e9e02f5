-- `layout::laid_out` meets its contract: after k entries, the entries that are left fit from the running place on exactly if all do.
use Prim.Native.Nat.{◌+◌, ◌-◌, ◌*◌, ◌<◌}
use mathlib.Core.Path.{◌≡◌}
use Rattle.gate_rules.specs.Tree.{entries_fit}
use Rattle.layout.proofs.laid_out.Given as goal

abbrev pub invariant-loop-k : goal.invariant-loop-k
invariant-loop-k l = (l.running < 8589934592) × (entries_fit l.tree (l.n - l.k) (4 + 16 * l.k) l.running ≡ entries_fit l.tree l.n 4 (4 + 16 * l.n))
