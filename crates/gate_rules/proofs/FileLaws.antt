-- Where the files of a tree stand whose layout is kept, and one step of each walk over them.
use Rattle.std.specs.Prelude.{ℕ, zero, suc, ◌+◌, ◌-◌, ◌*◌, ◌≤◌, ◌<◌, ◌≡◌, true, ◌&&◌, List, ◌++◌, length, take, drop}
use Rattle.std.proofs.Math.Path.{ap}
use Rattle.std.proofs.Common.{ap₂, subst, ◌∙◌, arith, length-take, length-drop}
use Rattle.text_rules.specs.Bytes.{put_at}
use Rattle.text_rules.specs.BytesLaws.{and_left, and_right}
use Rattle.text_rules.specs.Search.{part}
use Rattle.text_rules.specs.Sizes.{max_files}
use Rattle.text_rules.specs.Utf8.{is_utf8}
use Rattle.source_rules.specs.Blank.{blanked}
use Rattle.source_rules.proofs.BlankLaws.{blanked-length}
use Rattle.gate_rules.proofs.ConditionLaws.{entry-fits, laid_out}
use Rattle.gate_rules.specs.Records.{blank_into}
use Rattle.gate_rules.proofs.ScanForms.{sources-end, sources-step}
use Rattle.gate_rules.specs.Tree.{entries_fit, entry_at, entry_fits, file_count, is_laid_out, is_path, path_at, path_before, path_length, path_offset, paths_rise, source_at, sources_from, text_in, text_length, text_offset, texts_good}

-- the path and the text of an entry lie in the tree
pub record EntryInside (tree : List ℕ) (entry : ℕ) : Type 0 where
  pub path-some : 1 ≤ path_length tree entry
  pub path_inside : path_offset tree entry + path_length tree entry ≤ length tree
  pub text_at : text_offset tree entry ≡ path_offset tree entry + path_length tree entry
  pub text-inside : text_offset tree entry + text_length tree entry ≤ length tree

inside : (tree : List ℕ) (entry running : ℕ) → entry_fits tree entry running ≡ true → EntryInside tree entry
inside tree entry running e =
    let f = entry-fits tree entry running e in
    let p = f.path_offset in
    let t = f.text_offset in
    let i = f.text-inside in
    record { path-some = f.path-some; path_inside = omega arith; text_at = omega arith; text-inside = i }

inside-from : (tree : List ℕ) (left entry running k : ℕ) → k < left → entries_fit tree left entry running ≡ true → EntryInside tree (entry + 16 * k)
unfolding entries_fit
inside-from tree zero entry running k h e = absurd (omega arith)
inside-from tree (suc left) entry running zero h e =
    let z : entry ≡ entry + 16 * 0 = omega arith in subst (EntryInside tree) z (inside tree entry running (and_left _ _ e))
inside-from tree (suc left) entry running (suc k) h e =
    let z : entry + 16 + 16 * k ≡ entry + 16 * suc k = omega arith in
    subst (EntryInside tree) z (inside-from tree left (entry + 16) _ k (omega arith) (and_right (entry_fits tree entry running) _ e))

-- the entry, the path and the text of the file with the number k lie in the tree
pub record FileAt (tree : List ℕ) (k : ℕ) : Type 0 where
  pub number_small : k < max_files
  pub entry-inside : entry_at k + 16 ≤ length tree
  pub path-some : 1 ≤ path_length tree (entry_at k)
  pub path_inside : path_offset tree (entry_at k) + path_length tree (entry_at k) ≤ length tree
  pub text_at : text_offset tree (entry_at k) ≡ path_offset tree (entry_at k) + path_length tree (entry_at k)
  pub text-inside : text_offset tree (entry_at k) + text_length tree (entry_at k) ≤ length tree

pub file-at : (tree : List ℕ) (k : ℕ) → is_laid_out tree ≡ true → k < file_count tree → FileAt tree k
file-at tree k e h =
    let l = laid_out tree e in
    let few = l.few in
    let table = l.table in
    let i = inside-from tree (file_count tree) 4 _ k h l.entries in
    record {
      number_small = omega arith;
      entry-inside = omega arith;
      path-some = i.path-some;
      path_inside = i.path_inside;
      text_at = i.text_at;
      text-inside = i.text-inside;
    }

-- a tree whose layout is kept has the bytes of its file count
pub count-inside : (tree : List ℕ) → is_laid_out tree ≡ true → 4 ≤ length tree
count-inside tree e = let table = (laid_out tree e).table in omega arith

-- bytes by their bounds are bytes by their place and their number
pub span-is : (tree : List ℕ) (at size from to : ℕ) → from ≡ at → to ≡ at + size → part from to tree ≡ take size (drop at tree)
span-is tree at size from to e d = let n : to - from ≡ size = omega arith in ap₂ (λ m i. take m (drop i tree)) n e

-- a loop over the files: what is asked of those that are left after k of n
module _ (tree : List ℕ) (n k : ℕ) where
  pub paths-step : (last : List ℕ) → k < n
      → paths_rise last (sources_from tree (n - k) k (4 + 16 * k))
      ≡ (is_path (path_at tree (entry_at k)) && path_before last (path_at tree (entry_at k)) && paths_rise (path_at tree (entry_at k)) (sources_from tree (n - (k + 1)) (k + 1) (4 + 16 * (k + 1))))
  unfolding paths_rise source_at
  paths-step last h = ap (paths_rise last) (sources-step tree n k h)

  pub paths-end : (last : List ℕ) → n ≤ k → paths_rise last (sources_from tree (n - k) k (4 + 16 * k)) ≡ true
  unfolding paths_rise
  paths-end last h = ap (paths_rise last) (sources-end tree n k k (4 + 16 * k) h)

  pub texts-step : k < n
      → texts_good (sources_from tree (n - k) k (4 + 16 * k)) ≡ (is_utf8 (text_in tree (entry_at k)) && texts_good (sources_from tree (n - (k + 1)) (k + 1) (4 + 16 * (k + 1))))
  unfolding texts_good source_at
  texts-step h = ap texts_good (sources-step tree n k h)

  pub texts-end : n ≤ k → texts_good (sources_from tree (n - k) k (4 + 16 * k)) ≡ true
  unfolding texts_good
  texts-end h = ap texts_good (sources-end tree n k k (4 + 16 * k) h)

  pub blank_step : (work : List ℕ) → k < n
      → blank_into (sources_from tree (n - k) k (4 + 16 * k)) work
      ≡ blank_into (sources_from tree (n - (k + 1)) (k + 1) (4 + 16 * (k + 1))) (put_at (text_offset tree (entry_at k)) (blanked (text_in tree (entry_at k))) work)
  unfolding blank_into source_at
  blank_step work h = ap (λ fs. blank_into fs work) (sources-step tree n k h)

  pub blank_end : (work : List ℕ) → n ≤ k → blank_into (sources_from tree (n - k) k (4 + 16 * k)) work ≡ work
  unfolding blank_into
  blank_end work h = ap (λ fs. blank_into fs work) (sources-end tree n k k (4 + 16 * k) h)

-- a text blanked between its bounds is put at its place
pub blank_put : (tree work : List ℕ) (at size from to : ℕ) → from ≡ at → to ≡ at + size → at + size ≤ length tree
    → take from work ++ blanked (part from to tree) ++ drop to work ≡ put_at at (blanked (take size (drop at tree))) work
blank_put tree work at size from to e d h =
    let text : part from to tree ≡ take size (drop at tree) = span-is tree at size from to e d in
    let long : length (take size (drop at tree)) ≡ size = simp (length-take, length-drop) (omega arith) in
    let n : to ≡ at + length (blanked (take size (drop at tree))) = omega (arith, blanked-length (take size (drop at tree))) in
    ap₂ (λ i t. take i work ++ blanked t ++ drop to work) e text ∙ ap (λ j. take at work ++ blanked (take size (drop at tree)) ++ drop j work) n
