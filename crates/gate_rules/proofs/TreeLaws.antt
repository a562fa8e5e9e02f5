-- What holds of the files of a tree that none of the refusals 1 to 4 applies to.
use Rattle.std.specs.Prelude.{ℕ, zero, suc, ◌+◌, ◌≤◌, ◌<◌, ◌≡◌, ◌↔◌, Bool, true, List, [], length, take, drop}
use Rattle.std.proofs.Common.{ap, inl, inr, arith, length-take, length-drop, eqb-true}
use Rattle.text_rules.specs.Bytes.{All, total}
use Rattle.text_rules.specs.BytesLaws.{and_left, and_right, true_false, whether}
use Rattle.text_rules.specs.Sizes.{max_files, max_path, max_tree}
use Rattle.gate_rules.proofs.ConditionLaws.{entry-fits, layout_spelled, paths_spelled, texts_spelled}
use Rattle.gate_rules.specs.Table.{EntryLaid, Fails, GoodPaths, Layout, tree_rows}
use Rattle.gate_rules.proofs.TableLaws.{exactly_zero, tree_different, tree-first}
use Rattle.gate_rules.specs.Tree.{Source, entries_fit, entry_fits, file_count, is_laid_out, path_length, path_offset, paths_rise, source_at, sources, sources_from, table_end, text_length, text_offset, texts_good, tree_refusal}
pub use Rattle.gate_rules.proofs.ConditionLaws.{laid_out}

pub record SoundTree (tree : List ℕ) : Type 0 where
  pub short : length tree ≤ max_tree
  pub laid : is_laid_out tree ≡ true
  pub paths : paths_rise [] (sources tree) ≡ true
  pub texts : texts_good (sources tree) ≡ true

-- a test that decides a condition passes where the condition cannot fail
decided : (test : Bool) (condition : Type 0) → (test ≡ true) ↔ condition → ((condition → ⊥) → ⊥) → test ≡ true
decided test condition spelled h = elim (whether test) [ inl e ↦ e | inr e ↦ absurd (h (λ c. true_false test (spelled.1 c) e)) ]

-- where no row of the tree's own holds
pub sound : (tree : List ℕ) → All Fails (tree_rows tree) → SoundTree tree
sound tree h =
    let laid = decided (is_laid_out tree) (Layout tree) (layout_spelled tree) h.1.0 in
    let layout = (layout_spelled tree).0 laid in
    let short : 16777216 < length tree → ⊥ = h.0 in
    record {
      short = omega arith;
      laid = laid;
      paths = decided (paths_rise [] (sources tree)) (GoodPaths (sources tree)) (paths_spelled tree layout) h.1.1.0;
      texts = decided (texts_good (sources tree)) _ (texts_spelled (sources tree)) h.1.1.1.0;
    }

pub unrefused : (tree : List ℕ) → tree_refusal tree ≡ 0 → SoundTree tree
unrefused tree e = sound tree ((exactly_zero (tree_rows tree) (tree_different tree) (tree_refusal tree) (tree-first tree)).0 e)

-- a file that stands in its tree
pub record InTree (tree : List ℕ) (f : Source) : Type 0 where
  pub number_small : f.number < max_files
  pub path-some : 1 ≤ length f.path
  pub path-short : length f.path ≤ max_path
  pub text-inside : f.text_at + length f.text ≤ length tree
  pub text-there : take (length f.text) (drop f.text_at tree) ≡ f.text

source-placed : (tree : List ℕ) (number entry place : ℕ) → number < max_files → EntryLaid tree entry place → InTree tree (source_at tree number entry)
unfolding source_at
source-placed tree number entry place small f =
    let a = f.path-some in
    let b = f.path-short in
    let c = f.text_offset in
    let d = f.text-inside in
    let p = f.path_offset in
    let path-size : length (take (path_length tree entry) (drop (path_offset tree entry) tree)) ≡ path_length tree entry = simp (length-take, length-drop) (omega arith) in
    let text-size : length (take (text_length tree entry) (drop (text_offset tree entry) tree)) ≡ text_length tree entry = simp (length-take, length-drop) (omega arith) in
    record {
      number_small = small;
      path-some = omega arith;
      path-short = omega arith;
      text-inside = omega arith;
      text-there = ap (λ n. take n (drop (text_offset tree entry) tree)) text-size;
    }

from-placed : (tree : List ℕ) (left number entry place : ℕ) → number + left ≤ max_files → entries_fit tree left entry place ≡ true → All (InTree tree) (sources_from tree left number entry)
unfolding entries_fit sources_from
from-placed tree zero number entry place h e = tt
from-placed tree (suc left) number entry place h e = (
  source-placed tree number entry place (omega arith) (entry-fits tree entry place (and_left _ _ e)),
  from-placed tree left (suc number) (entry + 16) _ (omega arith) (and_right (entry_fits tree entry place) _ e),
)

-- the texts of the files are together no longer than the tree
from-texts : (tree : List ℕ) (left number entry place : ℕ) → entries_fit tree left entry place ≡ true → place + total (λ f. length f.text) (sources_from tree left number entry) ≤ length tree
unfolding entries_fit sources_from source_at
from-texts tree zero number entry place e = omega (arith, eqb-true place (length tree) e)
from-texts tree (suc left) number entry place e =
    let f = entry-fits tree entry place (and_left _ _ e) in
    let a = f.text_offset in
    let short : length (take (text_length tree entry) (drop (text_offset tree entry) tree)) ≤ text_length tree entry = simp length-take (omega arith) in
    omega (arith, from-texts tree left (suc number) (entry + 16) (text_offset tree entry + text_length tree entry) (and_right (entry_fits tree entry place) _ e))

pub sources-placed : (tree : List ℕ) → SoundTree tree → All (InTree tree) (sources tree)
unfolding sources
sources-placed tree t =
    let l = laid_out tree t.laid in
    from-placed tree (file_count tree) 0 4 (table_end tree) (omega (arith, l.few)) l.entries

pub texts_fit : (tree : List ℕ) → SoundTree tree → total (λ f. length f.text) (sources tree) ≤ length tree
unfolding sources
texts_fit tree t = omega (arith, from-texts tree (file_count tree) 0 4 (table_end tree) (laid_out tree t.laid).entries)
