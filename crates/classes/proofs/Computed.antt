-- A rule of a table, proved at all of its entries by one test that is computed, one entry after the other.
use mathlib.Core.Path.{◌∙◌, subst, sym}
use mathlib.Core.Bool.{Bool, true, false}
use mathlib.Core.List.{List, [], ◌∷◌}
use Prim.Native.Nat.{ℕ, zero, suc, ◌+◌, ◌<◌}
use native.Mathlib.Nat.{add-zero, zero-add, add-suc, suc-add, le_of_suc-le-suc, not-suc-le-zero}
use lib.Dec.{T}
use lib.ListN.{length, get_or}

abbrev pub both : Bool → Bool → Bool
both true b = b
both false b = false

both_left : (a b : Bool) → T (both a b) → T a
both_left true b t = tt
both_left false b t = t

both_right : (a b : Bool) → T (both a b) → T b
both_right true b t = t
both_right false b t = absurd t

module _ {A : Type 0} (f : ℕ → A → Bool) where
  -- the test f passes at each entry of the list and its place, counted from i
  abbrev pub every : ℕ → List A → Bool
  every i [] = true
  every i (x ∷ xs) = both (f i x) (every (suc i) xs)

  from : (d : A) (xs : List A) (i : ℕ) → T (every i xs) → (k : ℕ) → k < length xs → T (f (i + k) (get_or xs k d))
  from d [] i t k h = absurd (not-suc-le-zero h)
  from d (x ∷ xs) i t zero h = subst (λ (m : ℕ). T (f m x)) (sym (add-zero i)) (both_left (f i x) (every (suc i) xs) t)
  from d (x ∷ xs) i t (suc k) h =
      subst (λ (m : ℕ). T (f m (get_or xs k d))) (suc-add i k ∙ sym (add-suc i k))
      (from d xs (suc i) (both_right (f i x) (every (suc i) xs) t) k (le_of_suc-le-suc h))

  pub at : (d : A) (xs : List A) → T (every 0 xs) → (k : ℕ) → k < length xs → T (f k (get_or xs k d))
  at d xs t k h = subst (λ (m : ℕ). T (f m (get_or xs k d))) (zero-add k) (from d xs 0 t k h)
