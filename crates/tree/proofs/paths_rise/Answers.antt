-- `tree::paths_rise` meets its contract: after k files, the files that are left rise behind the last path exactly if all rise behind the empty one.
-- the files that are left after k of n
use Prim.Native.Nat.{ℕ, ◌+◌, ◌-◌, ◌<◌}
use mathlib.Core.Path.{◌≡◌, sym, ap, ◌∙◌}
use mathlib.Core.Bool.{Bool, true, false, ◌&&◌}
use mathlib.Core.List.{List, []}
use native.Mathlib.Omega.{arith}
use Rattle.gate_rules.proofs.FileLaws.{count-inside, paths-end, paths-step}
use Rattle.gate_rules.specs.Tree.{entry_at, file_count, is_path, path_at, path_before, paths_rise, sources, sources_from}
use Rattle.tree.proofs.paths_rise.Invariants.{rest}
use Rattle.tree.proofs.paths_rise.Goals as goal

module _ (tree : List ℕ) (n k : ℕ) (last path : List ℕ) (test : Bool) (h : k < n) (p : path ≡ path_at tree (entry_at k)) (e : test ≡ (is_path path && path_before last path)) where
  here : test ≡ (is_path (path_at tree (entry_at k)) && path_before last (path_at tree (entry_at k)))
  here = e ∙ ap (λ q. is_path q && path_before last q) p

  stops : test ≡ false → rest tree n k last ≡ false
  stops f = paths-step tree n k last h ∙ rw (sym here ∙ f)

  goes_on : test ≡ true → rest tree n (k + 1) path ≡ rest tree n k last
  goes_on t = ap (rest tree n (k + 1)) p ∙ sym (paths-step tree n k last h ∙ rw (sym here ∙ t))

all : (tree : List ℕ) (n : ℕ) → n ≡ file_count tree → rest tree n 0 [] ≡ paths_rise [] (sources tree)
unfolding sources
all tree n e = let m : n - 0 ≡ file_count tree = omega arith in ap (λ i. paths_rise [] (sources_from tree i 0 4)) m

pub file_count-n-requires : goal.file_count-n-requires
file_count-n-requires c = count-inside _ c.requires

pub loop-k-init : goal.loop-k-init
loop-k-init c = all _ _ c.file_count-n.ensures.0

pub path-path-requires : goal.path-path-requires
path-path-requires c = record { laid = c.requires; few = omega (arith, c.file_count-n.ensures.0) }

pub returns-then-not-next_path : goal.returns-then-not-next_path
returns-then-not-next_path c =
    sym (sym c.loop-k.invariant ∙ stops c.args.tree.now _ c.loop-k.k _ _ _ (omega arith) c.path-path.ensures c.next_path.ensures c.if-not-next_path.true)

pub loop-k-preserved : goal.loop-k-preserved
loop-k-preserved c =
    goes_on c.args.tree.now _ c.loop-k.k _ _ _ (omega arith) c.path-path.ensures c.next_path.ensures c.if-not-next_path.false ∙ c.loop-k.invariant

pub returns : goal.returns
returns c = sym (sym c.loop-k.invariant ∙ paths-end _ _ c.loop-k.k _ c.loop-k-test.false)
