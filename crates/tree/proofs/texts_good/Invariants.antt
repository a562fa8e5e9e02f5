-- `tree::texts_good` meets its contract: after k files, the texts that are left are good exactly if all are.
-- the files that are left after k of n
use Prim.Native.Nat.{ℕ, ◌+◌, ◌-◌, ◌*◌}
use mathlib.Core.Path.{◌≡◌}
use mathlib.Core.Bool.{Bool}
use mathlib.Core.List.{List}
use Rattle.gate_rules.specs.Tree.{sources, sources_from, texts_good}
use Rattle.tree.proofs.texts_good.Given as goal

abbrev pub rest : List ℕ → (n k : ℕ) → Bool
rest tree n k = texts_good (sources_from tree (n - k) k (4 + 16 * k))

abbrev pub invariant-loop-k : goal.invariant-loop-k
invariant-loop-k l = rest l.tree l.n l.k ≡ texts_good (sources l.tree)
