-- `tree::paths_rise` meets its contract: after k files, the files that are left rise behind the last path exactly if all rise behind the empty one.
-- the files that are left after k of n
use Prim.Native.Nat.{ℕ, ◌+◌, ◌-◌, ◌*◌}
use mathlib.Core.Path.{◌≡◌}
use mathlib.Core.Bool.{Bool}
use mathlib.Core.List.{List, []}
use Rattle.gate_rules.specs.Tree.{paths_rise, sources, sources_from}
use Rattle.tree.proofs.paths_rise.Given as goal

abbrev pub rest : List ℕ → (n k : ℕ) → List ℕ → Bool
rest tree n k last = paths_rise last (sources_from tree (n - k) k (4 + 16 * k))

abbrev pub invariant-loop-k : goal.invariant-loop-k
invariant-loop-k l = rest l.tree l.n l.k l.last ≡ paths_rise [] (sources l.tree)
