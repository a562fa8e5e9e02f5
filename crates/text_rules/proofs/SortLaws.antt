-- What `sort` gives by an order, in one statement: the elements in order, those that tie as they stood, and each as often as it was.
use Rattle.std.specs.Prelude.{ℕ, ◌≡◌, ◌↔◌, Bool, true, false, not, ◌&&◌}
use Rattle.std.proofs.Math.Path.{refl, ap}
use Rattle.std.proofs.Common.{◌∙◌}
use Rattle.std.proofs.Math.Logic.{inl, inr}
use mathlib.Core.List.{List, [], ◌∷◌}
use borrow.Author.Tests.{not-true}
use Rattle.text_rules.specs.ByteOrder.{Orders}
use Rattle.text_rules.specs.Bytes.{All, ◌∈◌, if◌then◌otherwise◌, kept, total}
use Rattle.text_rules.specs.BytesLaws.{All-at, All_in, All-map, and_left, and_right, true_false, whether}
use Rattle.text_rules.specs.Order.{insert, sort}
use Rattle.text_rules.proofs.OrderLaws.{insert_all, sort-all, sort_in, sort-total}

module _ {A : Type 0} (less : A → A → Bool) where
  -- no element stands before one that is less
  abbrev pub Ascending : List A → Type 0
  Ascending [] = Unit {0}
  Ascending (x ∷ xs) = All (λ y. less y x ≡ false) xs × Ascending xs

  -- neither is less
  unfoldable pub ties : A → A → Bool
  ties x y = not (less x y) && not (less y x)

  pub record StableSort (xs ys : List A) : Type 0 where
    pub in_order : Ascending ys
    pub stable : (x : A) → kept (ties x) ys ≡ kept (ties x) xs
    pub complete : (x : A) → (x ∈ ys) ↔ (x ∈ xs)
    pub as_often : (w : A → ℕ) → total w ys ≡ total w xs

  module _ (orders : Orders less) where
    not-less : (x y : A) → less x y ≡ true → less y x ≡ false
    not-less x y h = elim (whether (less y x)) [ inl e ↦ absurd (orders.asym x y h e) | inr e ↦ e ]

    -- where neither z is less than y nor y than x, z is not less than x
    not_through : (x y z : A) → less y x ≡ false → less z y ≡ false → less z x ≡ false
    not_through x y z h k =
        elim (whether (less z x)) [
          | inr e ↦ e
          | inl e ↦ elim (orders.splits z y x e) [ inl a ↦ absurd (true_false (less z y) a k) | inr a ↦ absurd (true_false (less y x) a h) ]
        ]

    insert_ascending : (x : A) (ys : List A) → Ascending ys → Ascending (insert less x ys)
    unfolding insert
    insert_ascending x [] h = (tt, tt)
    insert_ascending x (y ∷ ys) h =
        elim (whether (less y x)) [
          | inl e ↦ rw e (insert_all less (λ z. less z y ≡ false) x ys (not-less y x e) h.0, insert_ascending x ys h.1)
          | inr e ↦ rw e ((e, All-map (λ z. less z y ≡ false) (λ z. less z x ≡ false) (λ z k. not_through x y z e k) ys h.0), h)
        ]

    sort_ascending : (xs : List A) → Ascending (sort less xs)
    unfolding sort
    sort_ascending [] = tt
    sort_ascending (x ∷ xs) = insert_ascending x (sort less xs) (sort_ascending xs)

    -- of two of which one is less, at most one ties with x
    one-ties : (x y z : A) → less z y ≡ true → ties x z ≡ true → ties x y ≡ false
    unfolding ties
    one-ties x y z h k =
        elim (whether (ties x y)) [
          | inr e ↦ e
          | inl e ↦
              let a = not-true (less z x) (and_right (not (less x z)) _ k) in
              let b = not-true (less x y) (and_left (not (less x y)) _ e) in
              elim (orders.splits z x y h) [ inl c ↦ absurd (true_false (less z x) c a) | inr c ↦ absurd (true_false (less x y) c b) ]
        ]

    skipped : (x y : A) (zs : List A) → ties x y ≡ false → kept (ties x) (y ∷ zs) ≡ kept (ties x) zs
    unfolding kept
    skipped x y zs h = rw h

    insert-ties : (x y : A) (zs : List A) → kept (ties x) (insert less y zs) ≡ kept (ties x) (y ∷ zs)
    unfolding insert kept
    insert-ties x y [] = refl
    insert-ties x y (z ∷ zs) =
        elim (whether (less z y)) [
          | inr e ↦ rw e
          | inl e ↦
              elim (whether (ties x z)) [
                | inr t ↦ rw (e, t) (insert-ties x y zs)
                | inl t ↦ let u = one-ties x y z e t in rw (e, t, u) (ap (λ r. z ∷ r) (insert-ties x y zs ∙ skipped x y zs u))
              ]
        ]

    sort-ties : (x : A) (xs : List A) → kept (ties x) (sort less xs) ≡ kept (ties x) xs
    unfolding sort kept
    sort-ties x [] = refl
    sort-ties x (y ∷ xs) = insert-ties x y (sort less xs) ∙ ap (λ r. if ties x y then y ∷ r otherwise r) (sort-ties x xs)

    pub sort-stable : (xs : List A) → StableSort xs (sort less xs)
    sort-stable xs =
        record {
          in_order = sort_ascending xs;
          stable = λ x. sort-ties x xs;
          complete = λ x. (λ m. All-at (λ y. y ∈ xs) (sort less xs) (sort-all less (λ y. y ∈ xs) xs (All_in xs)) m, λ m. sort_in less xs m);
          as_often = λ w. sort-total less w xs;
        }
