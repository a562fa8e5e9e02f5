-- The table with its first entries filled: one entry more, and all of them are the rules' sums.
use Prim.Native.Nat.{ℕ, zero, suc, ◌+◌, ◌≤◌, ◌<◌}
use Rattle.std.specs.Prelude.{◌≡◌, ◌⊎◌}
use Rattle.std.proofs.Math.Path.{refl, ap, sym}
use Rattle.std.proofs.Common.{◌∙◌, arith, add-one, length-drop, ext_get_or}
use Rattle.std.proofs.Math.Logic.{⊎_elim}
use mathlib.Core.List.{List, [], ◌∷◌, ◌++◌, map, append_assoc}
use Rattle.std.proofs.Math.Nat.{eq-or-lt_of_le}
use Rattle.std.proofs.Math.ListN.{length, drop, set, get_or, length-append, get_or-append, get_or-map}
use Rattle.std.proofs.lemmas.List.{length-map, set_at}
use Rattle.std.proofs.Math.Seq.{drop-cons, get_or_at}
use Rattle.text_rules.specs.Bytes.{overwritten}
use Rattle.gate_rules.specs.Gate.{file_of, functions_of_files, gate}
use Rattle.gate_rules.specs.Report.{sums_from}
use Rattle.gate_rules.specs.ReportCall.{sums_of}
use Rattle.gate_rules.proofs.SumLaws.{file-sum, no_sum}
use Rattle.gate_rules.specs.Tree.{file_count, sources, sources_from}
use Rattle.sums.specs.Known.{Sums}
use Rattle.sums.specs.Sums.{entry, first_entries, none, stored}
use Rattle.sums.specs.declared.FileSum.{FileSum}

-- there is an entry for each file
from-length : (number left entry : ℕ) (tree : List ℕ) → length (sums_from functions_of_files number (map file_of (sources_from tree left number entry))) ≡ left
unfolding sums_from sources_from
from-length number zero entry tree = refl
from-length number (suc left) entry tree = ap suc (from-length (suc number) left (entry + 16) tree)

pub sums-length : (tree : List ℕ) → length (sums_of gate tree) ≡ file_count tree
unfolding sums_of gate sources
sums-length tree = from-length 0 (file_count tree) 4 tree

module _ (of : List ℕ) where
  pub entries-length : (n : ℕ) → length (first_entries of n) ≡ n
  unfolding first_entries
  entries-length zero = refl
  entries-length (suc n) = length-append (first_entries of n) (entry n (get_or of n 0) ∷ []) ∙ (omega (arith, entries-length n))

  pub filled-length : (n : ℕ) (t : List FileSum) → n ≤ length t → length (overwritten (first_entries of n) t) ≡ length t
  filled-length n t h =
      length-append (first_entries of n) (drop (length (first_entries of n)) t)
      ∙ (omega (arith, entries-length n, length-drop (length (first_entries of n)) t))

  -- nothing is filled yet
  pub filled_none : (t : List FileSum) → overwritten (first_entries of 0) t ≡ t
  unfolding first_entries
  filled_none t = refl

  -- one entry more
  pub filled_next : (n : ℕ) (t : List FileSum) → n < length t → overwritten (first_entries of (n + 1)) t ≡ set (overwritten (first_entries of n) t) n (entry n (get_or of n 0))
  unfolding first_entries
  filled_next n t h =
      let done = first_entries of n in
      let here = entry n (get_or of n 0) in
      let size : length done ≡ n = entries-length n in
      let rest : drop (length done) t ≡ get_or t n none ∷ drop (suc n) t = ap (λ k. drop k t) size ∙ drop-cons t n none h in
      let more : length (done ++ here ∷ []) ≡ suc n = length-append done (here ∷ []) ∙ (omega (arith, size)) in
      ap (λ k. overwritten (first_entries of k) t) (add-one n)
      ∙ ap (λ k. (done ++ here ∷ []) ++ drop k t) more
      ∙ append_assoc done (here ∷ []) (drop (suc n) t)
      ∙ sym (set_at done (get_or t n none) (drop (suc n) t) here n size)
      ∙ ap (λ s. set (done ++ s) n here) (sym rest)

  -- an entry by its number
  entry_at : (n k : ℕ) → k < n → get_or (first_entries of n) k none ≡ entry k (get_or of k 0)
  unfolding first_entries
  entry_at zero k h = absurd (omega arith)
  entry_at (suc n) k h =
      ⊎_elim
      (λ e. ap (λ i. get_or (first_entries of n ++ entry n (get_or of n 0) ∷ []) i none) e ∙ get_or_at (first_entries of n) (entry n (get_or of n 0)) [] none n (entries-length n) ∙ ap (λ i. entry i (get_or of i 0)) (sym e))
      (λ l. get_or-append (first_entries of n) (entry n (get_or of n 0) ∷ []) none k (omega (arith, entries-length n)) ∙ entry_at n k l)
      (split k n h)
    where
      split : (k n : ℕ) → k < suc n → (k ≡ n) ⊎ (k < n)
      split k n h = eq-or-lt_of_le (omega arith)

-- the entries of all files are the sums of the rules
pub entries-are : (tree of : List ℕ) → Sums tree of → file_count tree ≤ 1024 → first_entries of (file_count tree) ≡ map stored (sums_of gate tree)
entries-are tree of s few =
    let n = file_count tree in
    let size : length (map stored (sums_of gate tree)) ≡ n = length-map (sums_of gate tree) stored ∙ sums-length tree in
    ext_get_or none (first_entries of n) (map stored (sums_of gate tree)) (entries-length of n ∙ sym size) (λ k h.
    let inside : k < n = omega (arith, entries-length of n) in
    entry_at of n k inside
    ∙ ap (entry k) (s.sum_of k (omega arith))
    ∙ sym (ap stored (file-sum tree k inside))
    ∙ sym (get_or-map stored (sums_of gate tree) k no_sum))
