-- The elements of a list that pass a test, in a given order, as a loop takes them: each by its place in the list, ties by place. They are what `sort` gives.
use Prim.Native.Nat.{ℕ, zero, suc, ◌+◌, ◌<◌, ◌≤◌}
use Rattle.std.specs.Prelude.{◌≡◌, ◌⊎◌, Bool, true, false, not, length, drop}
use Rattle.std.proofs.Math.Path.{refl, ap}
use Rattle.std.proofs.Common.{sym, ◌∙◌, subst, add-one, take-append-drop}
use Rattle.std.proofs.Math.Logic.{inl, inr}
use Rattle.std.proofs.Math.Bool.{or-true}
use mathlib.Core.List.{List, [], ◌∷◌, ◌++◌, map}
use Rattle.std.proofs.Math.Option.{Option}
use native.Mathlib.Omega.{arith}
use Rattle.std.proofs.Math.ListN.{take, get_or}
use borrow.Author.Tests.{lt-ltb, ltb-true, not-true}
use Rattle.text_rules.specs.ByteOrder.{Orders}
use Rattle.text_rules.specs.Bytes.{All, if◌then◌otherwise◌, kept}
use Rattle.text_rules.specs.BytesLaws.{All-map, and_left, and_right, kept_iff, or_cases, true_false, whether}
use Rattle.text_rules.specs.Order.{insert, sort}
use Rattle.text_rules.proofs.OrderLaws.{sort_in}
use Rattle.text_rules.specs.Selection.{Placed, Rising, ahead, less_what, placed_from}
use Rattle.text_rules.proofs.SelectionLaws.{ahead-asym, sort-rising, sort-what}
use Rattle.text_rules.proofs.SortLaws.{Ascending, sort-stable}
use Rattle.order.specs.Best.{After, Best, Exactly, head_of, last_of, next-is}

-- what is taken out of a list in order is in order: sorting what passes a test is the same before and after
module _ {A : Type 0} (less : A → A → Bool) (test : A → Bool) where
  insert-front : (x : A) (ys : List A) → All (λ y. less y x ≡ false) ys → insert less x (kept test ys) ≡ x ∷ kept test ys
  unfolding insert kept
  insert-front x [] h = refl
  insert-front x (y ∷ ys) h =
      elim (whether (test y)) [
        | inl t ↦ rw (t, h.0)
        | inr t ↦ rw t (insert-front x ys h.1)
      ]

  module _ (orders : Orders less) where
    through : (x y z : A) → less y x ≡ false → less z y ≡ false → less z x ≡ false
    through x y z h k =
        elim (whether (less z x)) [
          | inr e ↦ e
          | inl e ↦ elim (orders.splits z y x e) [ inl a ↦ absurd (true_false (less z y) a k) | inr a ↦ absurd (true_false (less y x) a h) ]
        ]

    insert-kept : (x : A) (ys : List A) → Ascending less ys → kept test (insert less x ys) ≡ (if test x then insert less x (kept test ys) otherwise kept test ys)
    unfolding insert kept
    insert-kept x [] h = refl
    insert-kept x (y ∷ ys) h =
        elim (whether (less y x)) [
          | inl e ↦ elim (whether (test y)) [
            | inl t ↦ elim (whether (test x)) [
              | inl u ↦ rw (e, t, insert-kept x ys h.1, u, e)
              | inr u ↦ rw (e, t, insert-kept x ys h.1, u)
            ]
            | inr t ↦ rw (e, t) (insert-kept x ys h.1)
          ]
          | inr e ↦ elim (whether (test x)) [
            | inl u ↦ rw (e, u) (sym (insert-front x (y ∷ ys) (e, All-map _ _ (λ z k. through x y z e k) ys h.0)))
            | inr u ↦ rw (e, u)
          ]
        ]

    sort-kept : (xs : List A) → kept test (sort less xs) ≡ sort less (kept test xs)
    unfolding sort kept
    sort-kept [] = refl
    sort-kept (x ∷ xs) =
        elim (whether (test x)) [
          | inl t ↦ insert-kept x (sort less xs) (sort-stable less orders xs).in_order ∙ rw (t, sort-kept xs)
          | inr t ↦ insert-kept x (sort less xs) (sort-stable less orders xs).in_order ∙ rw (t, sort-kept xs)
        ]

module _ {A : Type 0} (less : A → A → Bool) (orders : Orders less) where
  -- the ways that one is ahead
  pub ahead-less : (p q : Placed A) → less p.what q.what ≡ true → ahead less orders p q ≡ true
  unfolding ahead
  ahead-less p q h = rw h

  pub ahead-earlier : (p q : Placed A) → less q.what p.what ≡ false → p.at < q.at → ahead less orders p q ≡ true
  unfolding ahead
  ahead-earlier p q h k = rw (h, lt-ltb p.at q.at k) (or-true (less p.what q.what))

  -- and those that it is not
  pub behind_more : (p q : Placed A) → less q.what p.what ≡ true → ahead less orders p q ≡ true → ⊥
  behind_more p q h k = ahead-asym less orders p q k (ahead-less q p h)

  pub behind-later : (p q : Placed A) → less p.what q.what ≡ false → q.at ≤ p.at → ahead less orders p q ≡ true → ⊥
  unfolding ahead
  behind-later p q h k a =
      elim (or_cases (less p.what q.what) _ a) [
        | inl e ↦ true_false (less p.what q.what) e h
        | inr e ↦ omega (arith, ltb-true p.at q.at (and_right (not (less q.what p.what)) _ e))
      ]

  pub ahead_cases : (p q : Placed A) → ahead less orders p q ≡ true → (less p.what q.what ≡ true) ⊎ ((less q.what p.what ≡ false) × (p.at < q.at))
  unfolding ahead
  ahead_cases p q h =
      elim (or_cases (less p.what q.what) _ h) [
        | inl e ↦ inl e
        | inr e ↦ inr (not-true (less q.what p.what) (and_left _ _ e), ltb-true p.at q.at (and_right (not (less q.what p.what)) _ e))
      ]

  pub ahead_trans : (p q r : Placed A) → ahead less orders p q ≡ true → ahead less orders q r ≡ true → ahead less orders p r ≡ true
  ahead_trans p q r h k =
      elim (ahead_cases p q h) [
        | inl e ↦ elim (orders.splits p.what r.what q.what e) [
          | inl a ↦ ahead-less p r a
          | inr a ↦ absurd (behind_more q r a k)
        ]
        | inr e ↦ elim (ahead_cases q r k) [
          | inl d ↦ elim (orders.splits q.what p.what r.what d) [
            | inl a ↦ absurd (true_false (less q.what p.what) a e.0)
            | inr a ↦ ahead-less p r a
          ]
          | inr d ↦ ahead-earlier p r (through less (λ x. true) orders p.what q.what r.what e.0 d.0) (omega arith)
        ]
      ]

  module _ (test : A → Bool) (xs : List A) where
    -- the elements that pass the test, with their places, in the order
    unfoldable pub picks : List (Placed A)
    picks = kept (λ p. test p.what) (sort (less_what less orders) (placed_from 0 xs))

    kept-all : (P : Placed A → Type 0) (ps : List (Placed A)) → All P ps → All P (kept (λ p. test p.what) ps)
    unfolding kept
    kept-all P [] h = tt
    kept-all P (p ∷ ps) h = elim (whether (test p.what)) [ inl t ↦ rw t (h.0, kept-all P ps h.1) | inr t ↦ rw t (kept-all P ps h.1) ]

    kept-rising : (ps : List (Placed A)) → Rising (ahead less orders) ps → Rising (ahead less orders) (kept (λ p. test p.what) ps)
    unfolding kept
    kept-rising [] h = tt
    kept-rising (p ∷ ps) h = elim (whether (test p.what)) [ inl t ↦ rw t (kept-all _ ps h.0, kept-rising ps h.1) | inr t ↦ rw t (kept-rising ps h.1) ]

    pub picks-rise : Rising (ahead less orders) picks
    unfolding picks
    picks-rise = kept-rising _ (sort-rising less orders 0 xs)

    kept-what : (ps : List (Placed A)) → map (λ p. p.what) (kept (λ p. test p.what) ps) ≡ kept test (map (λ p. p.what) ps)
    unfolding kept
    kept-what [] = refl
    kept-what (p ∷ ps) = elim (whether (test p.what)) [ inl t ↦ rw (t, kept-what ps) | inr t ↦ rw (t, kept-what ps) ]

    -- the elements themselves are the sorted list
    pub picks-what : map (λ p. p.what) picks ≡ sort less (kept test xs)
    unfolding picks
    picks-what = kept-what (sort (less_what less orders) (placed_from 0 xs)) ∙ ap (kept test) (sort-what less orders 0 xs) ∙ sort-kept less test orders xs

    what_orders : Orders (less_what less orders)
    unfolding less_what
    what_orders = record { asym = λ p q. orders.asym p.what q.what; splits = λ p q r. orders.splits p.what q.what r.what }

    -- and just those that pass the test
    picks-exactly : Exactly (ahead less orders) (ahead-asym less orders) (placed_from 0 xs) (λ p. test p.what ≡ true) picks
    unfolding picks
    picks-exactly =
        record {
          only = λ z m. let k = (kept_iff (λ p. test p.what) (sort (less_what less orders) (placed_from 0 xs)) z).0 m in (((sort-stable (less_what less orders) what_orders (placed_from 0 xs)).complete z).0 k.0, k.1);
          each = λ z m t. (kept_iff (λ p. test p.what) (sort (less_what less orders) (placed_from 0 xs)) z).1 (sort_in (less_what less orders) (placed_from 0 xs) m, t);
        }

    -- the element passes the test and stands behind the first `taken` picks
    abbrev pub Open : ℕ → Placed A → Type 0
    Open taken p = (test p.what ≡ true) × After (ahead less orders) (last_of (take taken picks)) p

    -- the best of all that are left is the next pick
    pub next_pick : (taken : ℕ) (r : Option (Placed A)) → Best (ahead less orders) (Open taken) (placed_from 0 xs) r → r ≡ head_of (drop taken picks)
    next_pick taken r b =
        let cut : take taken picks ++ drop taken picks ≡ picks = take-append-drop taken picks in
        next-is (ahead less orders) (ahead-asym less orders) (placed_from 0 xs) (λ p. test p.what ≡ true) (take taken picks) (drop taken picks)
        (subst (Rising (ahead less orders)) (sym cut) picks-rise)
        (subst (Exactly (ahead less orders) (ahead-asym less orders) (placed_from 0 xs) (λ p. test p.what ≡ true)) (sym cut) picks-exactly) r b

-- the elements with their places, one after another
module _ {A : Type 0} (d : A) where
  abbrev pub placed : List A → ℕ → Placed A
  placed xs k = record { at = k; what = get_or xs k d }

  from_next : (j : ℕ) (xs : List A) (k : ℕ) → k < length xs → take (suc k) (placed_from j xs) ≡ take k (placed_from j xs) ++ record { at = j + k; what = get_or xs k d } ∷ []
  unfolding placed_from
  from_next j [] k h = absurd (omega arith)
  from_next j (x ∷ xs) zero h = let e : j ≡ j + 0 = omega arith in ap (λ i. record { at = i; what = x } ∷ []) e
  from_next j (x ∷ xs) (suc k) h =
      let e : suc j + k ≡ j + suc k = omega arith in
      ap (λ ps. record { at = j; what = x } ∷ ps) (from_next (suc j) xs k (omega arith) ∙ ap (λ i. take k (placed_from (suc j) xs) ++ record { at = i; what = get_or xs k d } ∷ []) e)

  pub seen_next : (xs : List A) (k : ℕ) → k < length xs → take (k + 1) (placed_from 0 xs) ≡ take k (placed_from 0 xs) ++ placed xs k ∷ []
  seen_next xs k h =
      let e : 0 + k ≡ k = omega arith in
      rw (add-one k) (from_next 0 xs k h ∙ ap (λ i. take k (placed_from 0 xs) ++ record { at = i; what = get_or xs k d } ∷ []) e)

  from_all : (j : ℕ) (xs : List A) (n : ℕ) → length xs ≤ n → take n (placed_from j xs) ≡ placed_from j xs
  unfolding placed_from
  from_all j [] zero h = refl
  from_all j [] (suc n) h = refl
  from_all j (x ∷ xs) zero h = absurd (omega arith)
  from_all j (x ∷ xs) (suc n) h = ap (λ ps. record { at = j; what = x } ∷ ps) (from_all (suc j) xs n (omega arith))

  pub seen_all : (xs : List A) (n : ℕ) → length xs ≤ n → take n (placed_from 0 xs) ≡ placed_from 0 xs
  seen_all xs n h = from_all 0 xs n h
