-- The weights of all files of a tree, by file number: with a function or without, so that the number is the place. Those with a function are the rules' weights.
use Rattle.std.specs.Prelude.{ℕ, zero, suc, ◌+◌, ◌*◌, ◌≤◌, ◌<◌, ◌≡◌, refl, Bool, true, false, List, [], ◌∷◌, ◌++◌, map, ltb, length, drop, get_or}
use Rattle.std.proofs.Common.{ap, ap₂, subst, sym, ◌∙◌, append-nil, arith, length-drop, length-take, le-ltb, lt-ltb}
use Rattle.std.proofs.lemmas.List.{length-map}
use Rattle.text_rules.specs.Bytes.{All, if◌then◌otherwise◌, kept, total}
use Rattle.source_rules.specs.TextScan.{TextFun, functions}
use Rattle.source_rules.proofs.TextScanLaws.{Fine, functions-fine}
use Rattle.gate_rules.proofs.ConditionLaws.{entries-count}
use Rattle.gate_rules.specs.Functions.{Fun}
use Rattle.gate_rules.specs.Gate.{file_of, fun_of, functions_of_file, functions_of_files, gate}
use Rattle.gate_rules.specs.Records.{records}
use Rattle.gate_rules.specs.Report.{Weight, sums_from, weight_of, weights}
use Rattle.gate_rules.specs.ReportCall.{sums_of}
use Rattle.gate_rules.specs.Scan.{File}
use Rattle.gate_rules.specs.SumOver.{sum_over}
use Rattle.gate_rules.proofs.SumLaws.{file-sum, no_sum}
use Rattle.gate_rules.specs.Tree.{entry_at, file_count, path_length, path_of, path_offset, source_at, sources, sources_from}
use Rattle.gate_rules.proofs.TreeLaws.{unrefused}
use Rattle.sums.specs.Known.{Known, known-few}

abbrev pub no_weight : Weight
no_weight = record { path = []; functions = 0; sum = 0 }

-- a file with a function is listed
unfoldable pub is_listed : Weight → Bool
is_listed w = ltb 0 w.functions

-- the weights of all files
unfoldable pub listed : List ℕ → List Weight
listed tree = map (weight_of functions_of_files) (map file_of (sources tree))

abbrev pub weight_at : List ℕ → ℕ → Weight
weight_at tree k = get_or (listed tree) k no_weight

-- those with a function, in their order
kept-weights : (fs : List File) → weights functions_of_files fs ≡ kept is_listed (map (weight_of functions_of_files) fs)
unfolding weights kept is_listed
kept-weights [] = refl
kept-weights (f ∷ fs) = ap (λ ws. if ltb 0 (weight_of functions_of_files f).functions then weight_of functions_of_files f ∷ ws otherwise ws) (kept-weights fs)

pub weights-are : (tree : List ℕ) → weights gate.functions_in (gate.files tree) ≡ kept is_listed (listed tree)
unfolding gate listed
weights-are tree = kept-weights (map file_of (sources tree))

-- one for each file
pub listed-count : (tree : List ℕ) → length (listed tree) ≡ file_count tree
unfolding listed sources
listed-count tree = length-map (map file_of (sources tree)) (weight_of functions_of_files) ∙ length-map (sources tree) file_of ∙ entries-count tree (file_count tree) 0 4

-- the weight of the file with a number
from_at : (tree : List ℕ) (left number entry k : ℕ) → k < left
    → get_or (map (weight_of functions_of_files) (map file_of (sources_from tree left number entry))) k no_weight ≡ weight_of functions_of_files (file_of (source_at tree (number + k) (entry + 16 * k)))
unfolding sources_from
from_at tree zero number entry k h = absurd (omega arith)
from_at tree (suc left) number entry zero h =
    let e : number ≡ number + 0 = omega arith in
    let f : entry ≡ entry + 16 * 0 = omega arith in
    ap₂ (λ i j. weight_of functions_of_files (file_of (source_at tree i j))) e f
from_at tree (suc left) number entry (suc k) h =
    let e : suc number + k ≡ number + suc k = omega arith in
    let f : entry + 16 + 16 * k ≡ entry + 16 * suc k = omega arith in
    from_at tree left (suc number) (entry + 16) k (omega arith) ∙ ap₂ (λ i j. weight_of functions_of_files (file_of (source_at tree i j))) e f

weight_is : (tree : List ℕ) (k : ℕ) → k < file_count tree → weight_at tree k ≡ weight_of functions_of_files (file_of (source_at tree (0 + k) (4 + 16 * k)))
unfolding listed sources
weight_is tree k h = from_at tree (file_count tree) 0 4 k h

pub weight-path : (tree : List ℕ) (k : ℕ) → k < file_count tree → (weight_at tree k).path ≡ path_of tree k
unfolding weight_of file_of source_at path_of
weight-path tree k h = ap (λ w. w.path) (weight_is tree k h)

-- its sum is that of the table
sums_at : (number : ℕ) (fs : List File) (k : ℕ) → (get_or (map (weight_of functions_of_files) fs) k no_weight).sum ≡ (get_or (sums_from functions_of_files number fs) k no_sum).sum
unfolding sums_from
sums_at number [] k = refl
sums_at number (f ∷ fs) zero = refl
sums_at number (f ∷ fs) (suc k) = sums_at (suc number) fs k

pub weight-sum : (tree : List ℕ) (k : ℕ) → k < file_count tree → (weight_at tree k).sum ≡ sum_over k (records tree)
unfolding listed sums_of gate
weight-sum tree k h = sums_at 0 (map file_of (sources tree)) k ∙ ap (λ e. e.sum) (file-sum tree k h)

-- a function's cyclomatic number is at least 1, so that a file with a function has a sum
some-sum : (fs : List Fun) → All (λ f. 1 ≤ f.cyclomatic) fs → ltb 0 (length fs) ≡ ltb 0 (total (λ f. f.cyclomatic) fs)
some-sum [] h = refl
some-sum (f ∷ fs) h = lt-ltb 0 (length (f ∷ fs)) (omega arith) ∙ sym (lt-ltb 0 (total (λ g. g.cyclomatic) (f ∷ fs)) (omega (arith, h.0)))

least : (path text : List ℕ) (fs : List TextFun) → All (Fine text) fs → All (λ f. 1 ≤ f.cyclomatic) (map (fun_of path) fs)
unfolding fun_of
least path text [] h = tt
least path text (f ∷ fs) h = (h.0.cyclomatic-least, least path text fs h.1)

file-some : (f : File) → is_listed (weight_of functions_of_files f) ≡ ltb 0 (weight_of functions_of_files f).sum
unfolding is_listed weight_of functions_of_files functions_of_file
file-some f =
    let fs = map (fun_of f.path) (functions f.blanked) in
    some-sum (fs ++ []) (subst (All (λ g. 1 ≤ g.cyclomatic)) (sym (append-nil fs)) (least f.path f.blanked (functions f.blanked) (functions-fine f.blanked)))

pub weight-some : (tree : List ℕ) (k : ℕ) → k < file_count tree → is_listed (weight_at tree k) ≡ ltb 0 (weight_at tree k).sum
weight-some tree k h =
    ap is_listed (weight_is tree k h) ∙ file-some (file_of (source_at tree (0 + k) (4 + 16 * k))) ∙ sym (ap (λ w. ltb 0 w.sum) (weight_is tree k h))

-- what is known of the sums
module _ (tree of : List ℕ) (known : Known tree of) (k : ℕ) (h : k < file_count tree) where
  pub sum-at : get_or of k 0 ≡ (weight_at tree k).sum
  sum-at = known.sums.sum_of k (omega (arith, known-few tree of known)) ∙ sym (weight-sum tree k h)

module _ (tree : List ℕ) (k : ℕ) (h : k < file_count tree) where
  pub listed_not : (weight_at tree k).sum ≡ 0 → is_listed (weight_at tree k) ≡ false
  listed_not e = weight-some tree k h ∙ le-ltb 0 (weight_at tree k).sum (omega (arith, e))

  pub listed-some : ((weight_at tree k).sum ≡ 0 → ⊥) → is_listed (weight_at tree k) ≡ true
  listed-some n = weight-some tree k h ∙ lt-ltb 0 (weight_at tree k).sum (positive (weight_at tree k).sum n)
    where
      positive : (m : ℕ) → (m ≡ 0 → ⊥) → 0 < m
      positive zero p = absurd (p refl)
      positive (suc m) p = omega arith

-- a path is no longer than the tree
pub path-short : (tree of : List ℕ) → Known tree of → (k : ℕ) → length (path_of tree k) ≤ 16777216
unfolding path_of
path-short tree of known k =
    omega (
      arith,
      length-take (path_length tree (entry_at k)) (drop (path_offset tree (entry_at k)) tree),
      length-drop (path_offset tree (entry_at k)) tree,
      (unrefused tree known.unrefused).short,
    )
