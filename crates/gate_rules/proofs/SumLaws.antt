-- The sum of a file is the sum over the records that have its number.
use Rattle.std.specs.Prelude.{ℕ, zero, suc, ◌+◌, ◌<◌, ◌≡◌, refl, List, [], ◌∷◌, ◌++◌, map, get_or, length}
use Rattle.std.proofs.Common.{ap, ap₂, sym, ◌∙◌, append-nil, arith, eq-eqb, ne_eqb}
use Rattle.text_rules.specs.Bytes.{total}
use Rattle.source_rules.specs.Blank.{blanked}
use Rattle.source_rules.specs.TextScan.{TextFun, functions}
use Rattle.gate_rules.specs.Functions.{Fun}
use Rattle.gate_rules.specs.Gate.{file_of, fun_of, functions_of_file, functions_of_files, gate}
use Rattle.gate_rules.specs.Records.{record_of, records, records_in, records_of_files}
use Rattle.gate_rules.specs.Report.{FileSum, sums_from, weight_of}
use Rattle.gate_rules.specs.ReportCall.{sums_of}
use Rattle.gate_rules.specs.Scan.{File}
use Rattle.gate_rules.specs.Tree.{Source, file_count, source_at, sources, sources_from}
use Rattle.gate_rules.specs.SumOver.{share_of, sum_over}
pub use Rattle.gate_rules.specs.Report.{no_sum}

pub sum-append : (number : ℕ) (xs ys : List (List ℕ)) → sum_over number (xs ++ ys) ≡ sum_over number xs + sum_over number ys
sum-append number [] ys = omega arith
sum-append number (x ∷ xs) ys = rw (sum-append number xs ys) (omega arith)

-- records of the file itself, and of another one
sum-own : (path : List ℕ) (file : Source) (number : ℕ) → file.number ≡ number → (fs : List TextFun) → sum_over number (map (record_of file) fs) ≡ total (λ f. f.cyclomatic) (map (fun_of path) fs)
unfolding share_of record_of fun_of
sum-own path file number e [] = refl
sum-own path file number e (f ∷ fs) = rw (eq-eqb file.number number e, sum-own path file number e fs)

sum-other : (file : Source) (number : ℕ) → (file.number ≡ number → ⊥) → (fs : List TextFun) → sum_over number (map (record_of file) fs) ≡ 0
unfolding share_of record_of
sum-other file number n [] = refl
sum-other file number n (f ∷ fs) = rw (ne_eqb file.number number n, sum-other file number n fs)

-- later files add nothing
sum-later : (tree : List ℕ) (left number entry m : ℕ) → m < number → sum_over m (records_of_files (sources_from tree left number entry)) ≡ 0
unfolding records_of_files records_in sources_from source_at
sum-later tree zero number entry m h = refl
sum-later tree (suc left) number entry m h =
    let file = source_at tree number entry in
    let here = map (record_of file) (functions (blanked file.text)) in
    omega (arith, sum-append m here (records_of_files (sources_from tree left (suc number) (entry + 16))), sum-other file m (λ e. omega arith) (functions (blanked file.text)), sum-later tree left (suc number) (entry + 16) m (omega arith))

-- one sum for each file
pub sums-length : (functions_in : List File → List Fun) (n : ℕ) (files : List File) → length (sums_from functions_in n files) ≡ length files
unfolding sums_from
sums-length functions_in n [] = refl
sums-length functions_in n (file ∷ files) = ap suc (sums-length functions_in (suc n) files)

same_sum : (a b x y : ℕ) → a ≡ b → x ≡ y → ◌≡◌ {A = FileSum} (record { file = a; sum = x }) (record { file = b; sum = y })
same_sum a b x y e h = ap₂ (λ i j. record { file = i; sum = j }) e h

sum-at : (tree : List ℕ) (left number entry k : ℕ) → k < left
    → get_or (sums_from functions_of_files number (map file_of (sources_from tree left number entry))) k no_sum
    ≡ record { file = number + k; sum = sum_over (number + k) (records_of_files (sources_from tree left number entry)) }
unfolding records_of_files records_in sources_from source_at sums_from weight_of functions_of_files functions_of_file file_of
sum-at tree zero number entry k h = absurd (omega arith)
sum-at tree (suc left) number entry zero h =
    let file = source_at tree number entry in
    let fs = functions (blanked file.text) in
    let later = records_of_files (sources_from tree left (suc number) (entry + 16)) in
    let e : number ≡ number + 0 = omega arith in
    same_sum number (number + 0) _ _ e
    (ap (total (λ f. f.cyclomatic)) (append-nil (map (fun_of file.path) fs))
    ∙ sym (sum-own file.path file (number + 0) e fs)
    ∙ own-only (sum_over (number + 0) (map (record_of file) fs)) (sum_over (number + 0) later) (sum_over (number + 0) (map (record_of file) fs ++ later))
    (sum-append (number + 0) (map (record_of file) fs) later) (sum-later tree left (suc number) (entry + 16) (number + 0) (omega arith)))
  where
    own-only : (x y z : ℕ) → z ≡ x + y → y ≡ 0 → x ≡ z
    own-only x y z h k = omega arith
sum-at tree (suc left) number entry (suc k) h =
    let file = source_at tree number entry in
    let fs = functions (blanked file.text) in
    let later = records_of_files (sources_from tree left (suc number) (entry + 16)) in
    let e : suc number + k ≡ number + suc k = omega arith in
    sum-at tree left (suc number) (entry + 16) k (omega arith)
    ∙ same_sum (suc number + k) (number + suc k) _ _ e
    (ap (λ n. sum_over n later) e
    ∙ later-only (sum_over (number + suc k) (map (record_of file) fs)) (sum_over (number + suc k) later) (sum_over (number + suc k) (map (record_of file) fs ++ later))
    (sum-append (number + suc k) (map (record_of file) fs) later) (sum-other file (number + suc k) (λ q. omega arith) fs))
  where
    later-only : (x y z : ℕ) → z ≡ x + y → x ≡ 0 → y ≡ z
    later-only x y z h k = omega arith

pub file-sum : (tree : List ℕ) (k : ℕ) → k < file_count tree → get_or (sums_of gate tree) k no_sum ≡ record { file = k; sum = sum_over k (records tree) }
unfolding sums_of gate records sources
file-sum tree k h =
    let e : 0 + k ≡ k = omega arith in
    sum-at tree (file_count tree) 0 4 k h ∙ same_sum (0 + k) k _ _ e (ap (λ n. sum_over n (records_of_files (sources_from tree (file_count tree) 0 4))) e)
