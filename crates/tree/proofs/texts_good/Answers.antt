-- `tree::texts_good` meets its contract: after k files, the texts that are left are good exactly if all are.
-- the files that are left after k of n
use Prim.Native.Nat.{ℕ, ◌+◌, ◌-◌, ◌<◌}
use mathlib.Core.Path.{◌≡◌, sym, ap, ◌∙◌}
use mathlib.Core.Bool.{Bool, true, false}
use mathlib.Core.List.{List}
use native.Mathlib.Omega.{arith}
use Rattle.text_rules.specs.Utf8.{is_utf8}
use Rattle.gate_rules.proofs.FileLaws.{count-inside, texts-end, texts-step}
use Rattle.gate_rules.specs.Tree.{entry_at, file_count, sources, sources_from, text_in, texts_good}
use Rattle.tree.proofs.texts_good.Invariants.{rest}
use Rattle.tree.proofs.texts_good.Goals as goal

module _ (tree : List ℕ) (n k : ℕ) (text : List ℕ) (test : Bool) (h : k < n) (p : text ≡ text_in tree (entry_at k)) (e : test ≡ is_utf8 text) where
  here : test ≡ is_utf8 (text_in tree (entry_at k))
  here = e ∙ ap is_utf8 p

  stops : test ≡ false → rest tree n k ≡ false
  stops f = texts-step tree n k h ∙ rw (sym here ∙ f)

  goes_on : test ≡ true → rest tree n (k + 1) ≡ rest tree n k
  goes_on t = sym (texts-step tree n k h ∙ rw (sym here ∙ t))

all : (tree : List ℕ) (n : ℕ) → n ≡ file_count tree → rest tree n 0 ≡ texts_good (sources tree)
unfolding sources
all tree n e = let m : n - 0 ≡ file_count tree = omega arith in ap (λ i. texts_good (sources_from tree i 0 4)) m

pub file_count-n-requires : goal.file_count-n-requires
file_count-n-requires c = count-inside _ c.requires

pub loop-k-init : goal.loop-k-init
loop-k-init c = all _ _ c.file_count-n.ensures.0

pub text-requires : goal.text-requires
text-requires c = record { laid = c.requires; few = omega (arith, c.file_count-n.ensures.0) }

pub returns-then-not-is_utf8 : goal.returns-then-not-is_utf8
returns-then-not-is_utf8 c =
    sym (sym c.loop-k.invariant ∙ stops c.args.tree.now _ c.loop-k.k _ _ (omega arith) c.text.ensures c.is_utf8.ensures c.if-not-is_utf8.true)

pub loop-k-preserved : goal.loop-k-preserved
loop-k-preserved c =
    goes_on c.args.tree.now _ c.loop-k.k _ _ (omega arith) c.text.ensures c.is_utf8.ensures c.if-not-is_utf8.false ∙ c.loop-k.invariant

pub returns : goal.returns
returns c = sym (sym c.loop-k.invariant ∙ texts-end _ _ c.loop-k.k c.loop-k-test.false)
