-- The sorted list of elements with their places rises strictly, and without the places it is the sorted list.
use Rattle.std.specs.Prelude.{ℕ, suc, ◌<◌, ◌≤◌, Bool, true, false, not}
use Rattle.std.proofs.Math.Path.{◌≡◌, refl}
use Rattle.std.proofs.Math.Logic.{inl, inr}
use Rattle.std.proofs.Math.Bool.{or-true}
use mathlib.Core.List.{List, [], ◌∷◌, map}
use native.Mathlib.Omega.{arith}
use borrow.Author.Tests.{ltb-true, lt-ltb, not-true}
use Rattle.text_rules.specs.ByteOrder.{Orders}
use Rattle.text_rules.specs.Bytes.{All}
use Rattle.text_rules.specs.BytesLaws.{and_left, and_right, or_cases, whether}
use Rattle.text_rules.specs.Order.{insert, sort}
use Rattle.text_rules.proofs.OrderLaws.{insert_all, sort-all}
use Rattle.text_rules.specs.Selection.{Placed, Rising, ahead, less_what, placed_from}

module _ {A : Type 0} where
  later : (k : ℕ) (xs : List A) (j : ℕ) → j ≤ k → All (λ p. j ≤ p.at) (placed_from k xs)
  unfolding placed_from
  later k [] j h = tt
  later k (x ∷ xs) j h = (h, later (suc k) xs j (omega arith))

module _ {A : Type 0} (less : A → A → Bool) (orders : Orders less) where
  ahead-less : (p q : Placed A) → less p.what q.what ≡ true → ahead less orders p q ≡ true
  unfolding ahead
  ahead-less p q h = rw h

  ahead-place : (p q : Placed A) → less q.what p.what ≡ false → p.at < q.at → ahead less orders p q ≡ true
  unfolding ahead
  ahead-place p q h k = rw (h, lt-ltb p.at q.at k) (or-true (less p.what q.what))

  -- whoever is ahead is not behind
  ahead_not : (p q : Placed A) → ahead less orders p q ≡ true → less q.what p.what ≡ true → ⊥
  unfolding ahead
  ahead_not p q h k =
      elim (or_cases (less p.what q.what) _ h) [
        | inl e ↦ orders.asym p.what q.what e k
        | inr e ↦ let f = not-true (less q.what p.what) (and_left (not (less q.what p.what)) _ e) in let z : ◌≡◌ {A = ℕ} 0 1 = cc in omega arith
      ]

  pub ahead-asym : (p q : Placed A) → ahead less orders p q ≡ true → ahead less orders q p ≡ true → ⊥
  unfolding ahead
  ahead-asym p q h k =
      elim (or_cases (less p.what q.what) _ h) [
        | inl e ↦ ahead_not q p k e
        | inr e ↦ elim (or_cases (less q.what p.what) _ k) [
          | inl f ↦ ahead_not p q h f
          | inr f ↦ omega (
            arith,
            ltb-true p.at q.at (and_right (not (less q.what p.what)) _ e),
            ltb-true q.at p.at (and_right (not (less p.what q.what)) _ f),
          )
        ]
      ]

  -- where q is ahead of r and not less than p, p, which stands earlier than r, is ahead of r
  ahead-through : (p q r : Placed A) → less q.what p.what ≡ false → ahead less orders q r ≡ true → p.at < r.at → ahead less orders p r ≡ true
  ahead-through p q r e h k =
      elim (whether (less r.what p.what)) [
        | inl t ↦ elim (orders.splits r.what q.what p.what t) [
          | inl u ↦ absurd (ahead_not q r h u)
          | inr u ↦ let z : ◌≡◌ {A = ℕ} 0 1 = cc in absurd (omega arith)
        ]
        | inr t ↦ ahead-place p r t k
      ]

  front : (p q : Placed A) → less q.what p.what ≡ false → (rs : List (Placed A)) → All (λ r. ahead less orders q r ≡ true) rs → All (λ r. p.at < r.at) rs → All (λ r. ahead less orders p r ≡ true) rs
  front p q e [] a b = tt
  front p q e (r ∷ rs) a b = (ahead-through p q r e a.0 b.0, front p q e rs a.1 b.1)

  -- what comes first in scan order goes before those that tie with it
  insert-rising : (p : Placed A) (qs : List (Placed A)) → All (λ q. p.at < q.at) qs → Rising (ahead less orders) qs → Rising (ahead less orders) (insert (less_what less orders) p qs)
  unfolding insert less_what
  insert-rising p [] h k = (tt, tt)
  insert-rising p (q ∷ qs) h k =
      elim (whether (less q.what p.what)) [
        | inl e ↦ rw e (insert_all (less_what less orders) (λ r. ahead less orders q r ≡ true) p qs (ahead-less q p e) k.0, insert-rising p qs h.1 k.1)
        | inr e ↦ rw e ((ahead-place p q e h.0, front p q e qs k.0 h.1), k)
      ]

  pub sort-rising : (k : ℕ) (xs : List A) → Rising (ahead less orders) (sort (less_what less orders) (placed_from k xs))
  unfolding sort placed_from
  sort-rising k [] = tt
  sort-rising k (x ∷ xs) = insert-rising _ (sort (less_what less orders) (placed_from (suc k) xs)) (sort-all (less_what less orders) _ (placed_from (suc k) xs) (later (suc k) xs (suc k) (omega arith))) (sort-rising (suc k) xs)

  insert-what : (p : Placed A) (qs : List (Placed A)) → map (λ r. r.what) (insert (less_what less orders) p qs) ≡ insert less p.what (map (λ r. r.what) qs)
  unfolding insert less_what
  insert-what p [] = refl
  insert-what p (q ∷ qs) =
      elim (whether (less q.what p.what)) [
        | inl e ↦ rw (e, insert-what p qs)
        | inr e ↦ rw e
      ]

  -- the elements in that order are the sorted list
  pub sort-what : (k : ℕ) (xs : List A) → map (λ r. r.what) (sort (less_what less orders) (placed_from k xs)) ≡ sort less xs
  unfolding sort placed_from
  sort-what k [] = refl
  sort-what k (x ∷ xs) = rw (insert-what _ (sort (less_what less orders) (placed_from (suc k) xs)), sort-what (suc k) xs)
