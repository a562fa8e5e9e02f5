-- Each record adds its cyclomatic number to the sum of its file, so that after k records each place holds its file's sum over those.
use Prim.Native.Nat.{ℕ, zero, suc, ◌+◌, ◌≤◌, ◌<◌}
use mathlib.Core.Path.{◌≡◌, refl, ap, sym, ◌∙◌}
use mathlib.Core.Logic.{inl, inr}
use mathlib.Core.List.{List, [], ◌∷◌, map}
use native.Mathlib.Omega.{arith}
use native.Mathlib.Numerals.{add-one}
use lib.Dec.{eqb}
use lib.ListN.{length, take, drop, get_or, set, replicate, length-set, take-append-drop}
use lib.Seq.{get_or-set_same, get_or-set_other, take-suc, take_all}
use borrow.Author.Tests.{eq-eqb, eqb-false, eqb-true, ne_eqb}
use Rattle.text_rules.specs.Bytes.{total}
use Rattle.text_rules.specs.BytesLaws.{total-map, whether}
use Rattle.gate_rules.specs.Gate.{gate}
use Rattle.gate_rules.specs.Records.{records, viewed}
use Rattle.gate_rules.proofs.RecordsLaws.{functions-viewed}
use Rattle.gate_rules.specs.Scan.{functions_of}
use Rattle.gate_rules.specs.SumOver.{share_of, sum_over}
use Rattle.gate_rules.proofs.SumLaws.{sum-append}
use Rattle.gate_rules.proofs.TreeLaws.{laid_out, unrefused}
use Rattle.gate_rules.proofs.TreeSizes.{tree_branches}
use Rattle.functions.specs.Shown.{Stand}
use Rattle.functions.proofs.Read.{tells-here}
use Rattle.sums.specs.Known.{Sums}

-- the number of a function's file
pub file-small : (tree lent : List ℕ) → Stand tree lent → (k : ℕ) → k < length (functions_of gate tree) → get_or (get_or (records tree) k []) 0 0 < 1024
file-small tree lent st k h = omega (arith, (tells-here tree lent st k h).file-there, (laid_out tree (unrefused tree st.unrefused).laid).few)

-- no sum is more than the tree's bytes
share_most : (number : ℕ) (r : List ℕ) → share_of number r ≤ get_or r 5 0
unfolding share_of
share_most number r =
    elim (whether (eqb (get_or r 0 0) number)) [
      | inl e ↦ rw e (omega arith)
      | inr e ↦ rw e (omega arith)
    ]

sum_of_all : (number : ℕ) (rs : List (List ℕ)) → sum_over number rs ≤ total (λ r. get_or r 5 0) rs
sum_of_all number [] = omega arith
sum_of_all number (r ∷ rs) = omega (arith, share_most number r, sum_of_all number rs)

branches_viewed : (tree : List ℕ) (rs : List (List ℕ)) → total (λ f. f.cyclomatic) (map (viewed tree) rs) ≡ total (λ r. get_or r 5 0) rs
unfolding viewed
branches_viewed tree rs = total-map (λ f. f.cyclomatic) (viewed tree) rs

pub sum-most : (tree lent : List ℕ) → Stand tree lent → (number : ℕ) → sum_over number (records tree) ≤ 16777216
sum-most tree lent st number =
    let all : total (λ f. f.cyclomatic) (functions_of gate tree) ≡ total (λ r. get_or r 5 0) (records tree) =
    ap (total (λ f. f.cyclomatic)) (functions-viewed tree (unrefused tree st.unrefused)) ∙ branches_viewed tree (records tree) in
    omega (arith, sum_of_all number (records tree), tree_branches tree st.unrefused)

module _ (tree : List ℕ) where
  -- after k records
  pub record Added (k : ℕ) (of : List ℕ) : Type 0 where
    pub size : length of ≡ 1024
    pub sums : (j : ℕ) → j < 1024 → get_or of j 0 ≡ sum_over j (take k (records tree))

  zeros : (n j : ℕ) → ◌≡◌ {A = ℕ} (get_or (replicate n 0) j 0) 0
  zeros zero j = refl
  zeros (suc n) zero = refl
  zeros (suc n) (suc j) = zeros n j

  pub added_none : Added 0 (replicate 1024 0)
  added_none = record { size = refl; sums = λ j h. zeros 1024 j }

  -- the sum over the first k records is a part of the sum over all
  pub part-most : (number k : ℕ) → sum_over number (take k (records tree)) ≤ sum_over number (records tree)
  part-most number k =
      omega (
        arith,
        sum-append number (take k (records tree)) (drop k (records tree)),
        ap (sum_over number) (take-append-drop k (records tree)),
      )

  module _ (k f b : ℕ) (of : List ℕ) (a : Added k of) (inside : k < length (records tree)) (of-file : f ≡ get_or (get_or (records tree) k []) 0 0) (of-branches : b ≡ get_or (get_or (records tree) k []) 5 0)
      (small : f < 1024) where
    abbrev r : List ℕ
    r = get_or (records tree) k []

    more : (j : ℕ) → sum_over j (take (k + 1) (records tree)) ≡ sum_over j (take k (records tree)) + share_of j r
    more j =
        ap (λ i. sum_over j (take i (records tree))) (add-one k)
        ∙ ap (sum_over j) (take-suc (records tree) k [] inside)
        ∙ sum-append j (take k (records tree)) (r ∷ [])
        ∙ (omega arith)

    share_own : share_of f r ≡ b
    unfolding share_of
    share_own = rw (eq-eqb (get_or r 0 0) f (sym of-file)) (sym of-branches)

    share_other : (j : ℕ) → (get_or r 0 0 ≡ j → ⊥) → share_of j r ≡ 0
    unfolding share_of
    share_other j n = rw (ne_eqb (get_or r 0 0) j n)

    -- it does not wrap
    pub sum-here : get_or of f 0 + b ≡ sum_over f (take (k + 1) (records tree))
    sum-here = omega (arith, a.sums f small, more f, share_own)

    pub added_next : Added (k + 1) (set of f (get_or of f 0 + b))
    added_next = record { size = length-set of f (get_or of f 0 + b) ∙ a.size; sums = each }
      where
        each : (j : ℕ) → j < 1024 → get_or (set of f (get_or of f 0 + b)) j 0 ≡ sum_over j (take (k + 1) (records tree))
        each j h =
            elim (whether (eqb (get_or r 0 0) j)) [
              | inl e ↦
                  let same : j ≡ f = sym (eqb-true (get_or r 0 0) j e) ∙ sym of-file in
                  ap (λ i. get_or (set of f (get_or of f 0 + b)) i 0) same
                  ∙ get_or-set_same of f (get_or of f 0 + b) 0 (omega (arith, a.size))
                  ∙ sum-here
                  ∙ ap (λ i. sum_over i (take (k + 1) (records tree))) (sym same)
              | inr e ↦
                  let other : get_or r 0 0 ≡ j → ⊥ = eqb-false (get_or r 0 0) j e in
                  get_or-set_other of f j (get_or of f 0 + b) 0 (λ q. other (sym of-file ∙ sym q)) ∙ (omega (arith, a.sums j h, more j, share_other j other))
            ]

  pub added-all : (k : ℕ) (of : List ℕ) → Added k of → length (records tree) ≤ k → Sums tree of
  added-all k of a h = record { size = a.size; sum_of = λ j l. a.sums j l ∙ ap (sum_over j) (take_all k (records tree) h) }
