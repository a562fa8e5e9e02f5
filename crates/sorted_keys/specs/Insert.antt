-- A key put into a list of keys that rises, so that the list rises again and holds each key once, and its place among the places of these.
use Prim.Native.Nat.{ℕ, zero, suc, ◌+◌, ◌≤◌, ◌<◌}
use Rattle.std.specs.Prelude.{◌≡◌, Bool, true, false, ◌&&◌, ◌||◌, eqb, ltb, length, take, drop, get_or, set}
use Rattle.std.proofs.Math.Path.{refl, ap}
use Rattle.std.proofs.Common.{sym, subst, ◌∙◌, add-one, length-take, take_all, take-take}
use Rattle.std.proofs.lemmas.Bool.Decides.{eqb_tells}
use Rattle.std.proofs.Math.Logic.{inl, inr}
use mathlib.Core.List.Memᴰ
use mathlib.Core.List.{List, [], ◌∷◌, ◌++◌}
use native.Mathlib.Omega.{arith}
use borrow.Author.Tests.{lt-ltb}
use Rattle.text_rules.specs.ByteOrder.{before_itself, before-total, before_trans}
use Rattle.text_rules.specs.Bytes.{All, ◌∈◌, if◌then◌otherwise◌, before, same}
use Rattle.text_rules.specs.BytesLaws.{All-at, All-map, same_refl, same_true, true_false, whether}
use Rattle.text_rules.specs.Selection.{Rising}
use Rattle.sorted_keys.specs.declared.Place.{Place}

-- the key at its place, where it does not stand there yet
unfoldable pub insert : List ℕ → List (List ℕ) → List (List ℕ)
insert k [] = k ∷ []
insert k (j ∷ js) = if before j k then j ∷ insert k js otherwise if same j k then j ∷ js otherwise k ∷ j ∷ js

-- its place: how many keys at the head stand before it
unfoldable pub place_of : List ℕ → List (List ℕ) → ℕ
place_of k [] = 0
place_of k (j ∷ js) = if before j k then suc (place_of k js) otherwise 0

-- an element put in at a place: those from there on stand one further
module _ {A : Type 0} where
  abbrev pub insert_at : ℕ → A → List A → List A
  insert_at at x xs = take at xs ++ x ∷ drop at xs

  -- the element that stood at the place is put in one further on
  step : (xs : List A) (i : ℕ) (x d : A) → i < length xs → insert_at (suc i) (get_or xs i d) (set xs i x) ≡ insert_at i x xs
  step [] i x d h = absurd (omega arith)
  step (y ∷ xs) zero x d h = refl
  step (y ∷ xs) (suc i) x d h = ap (λ ys. y ∷ ys) (step xs i x d (omega arith))

  pub insert-step : (xs : List A) (i : ℕ) (x d : A) → i < length xs → insert_at (i + 1) (get_or xs i d) (set xs i x) ≡ insert_at i x xs
  insert-step xs i x d h = rw (add-one i) (step xs i x d h)

  -- what stands in front of the place stays
  pub insert-front : (xs : List A) (m at : ℕ) (x : A) → m ≤ at → at ≤ length xs → take m (insert_at at x xs) ≡ take m xs
  insert-front xs zero at x h k = refl
  insert-front xs (suc m) zero x h k = absurd (omega arith)
  insert-front [] (suc m) (suc at) x h k = absurd (omega arith)
  insert-front (y ∷ xs) (suc m) (suc at) x h k = ap (λ ys. y ∷ ys) (insert-front xs m at x (omega arith) (omega arith))

  -- among the first ones, the element stands at its place
  inserted : (xs : List A) (m at : ℕ) (x d : A) → at < m → at ≤ length xs → (at < length (take m (insert_at at x xs))) × (get_or (take m (insert_at at x xs)) at d ≡ x)
  inserted xs zero at x d h k = absurd (omega arith)
  inserted xs (suc m) zero x d h k = (omega arith, refl)
  inserted [] (suc m) (suc at) x d h k = absurd (omega arith)
  inserted (y ∷ xs) (suc m) (suc at) x d h k = let i = inserted xs m at x d (omega arith) (omega arith) in (omega (arith, i.0), i.1)

-- whether the key stands at its place already
abbrev pub stands : List ℕ → List (List ℕ) → Bool
stands k ks = ltb (place_of k ks) (length ks) && same (get_or ks (place_of k ks) []) k

-- the places of the keys, with the place of a key put in at the number of the key. They stay as they are where 8,192 keys stand before it, or it stands
-- there already
unfoldable pub put_place : List ℕ → Place → List (List ℕ) → List Place → List Place
put_place k p ks ps =
    if eqb (place_of k ks) 8192 || stands k ks then ps otherwise take 8192 (insert_at (place_of k ks) p ps)

other : (j k : List ℕ) → before j k ≡ false → same j k ≡ false → before k j ≡ true
other j k e d =
    elim (whether (before k j)) [
      | inl t ↦ t
      | inr t ↦ absurd (true_false (same j k) (ap (same j) (sym (before-total j k e t)) ∙ same_refl j) d)
    ]

module _ (k : List ℕ) where
  -- what holds of the key and of all others
  pub insert_all : (P : List ℕ → Type 0) (ks : List (List ℕ)) → P k → All P ks → All P (insert k ks)
  unfolding insert
  insert_all P [] p h = (p, tt)
  insert_all P (j ∷ js) p h =
      elim (whether (before j k)) [
        | inl e ↦ rw e (h.0, insert_all P js p h.1)
        | inr e ↦ elim (whether (same j k)) [ inl d ↦ rw (e, d) h | inr d ↦ rw (e, d) (p, h) ]
      ]

  pub insert-rising : (ks : List (List ℕ)) → Rising before ks → Rising before (insert k ks)
  unfolding insert
  insert-rising [] r = (tt, tt)
  insert-rising (j ∷ js) r =
      elim (whether (before j k)) [
        | inl e ↦ rw e (insert_all (λ i. before j i ≡ true) js e r.0, insert-rising js r.1)
        | inr e ↦ elim (whether (same j k)) [
          | inl d ↦ rw (e, d) r
          | inr d ↦ rw (e, d) ((other j k e d, All-map (λ i. before j i ≡ true) (λ i. before k i ≡ true) (λ i b. before_trans k j i (other j k e d) b) js r.0), r)
        ]
      ]

  -- the key is one of them, and the others stay
  pub insert_it : (ks : List (List ℕ)) → k ∈ insert k ks
  unfolding insert
  insert_it [] = Memᴰ.head refl
  insert_it (j ∷ js) =
      elim (whether (before j k)) [
        | inl e ↦ rw e (Memᴰ.tail (insert_it js))
        | inr e ↦ elim (whether (same j k)) [ inl d ↦ rw (e, d) (Memᴰ.head (sym (same_true j k d))) | inr d ↦ rw (e, d) (Memᴰ.head refl) ]
      ]

  pub insert-others : (ks : List (List ℕ)) {z : List ℕ} → z ∈ ks → z ∈ insert k ks
  unfolding insert
  insert-others (j ∷ js) m =
      elim (whether (before j k)) [
        | inl e ↦ rw e (elim (Memᴰ.cases_cons m) [ inl q ↦ Memᴰ.head q | inr n ↦ Memᴰ.tail (insert-others js n) ])
        | inr e ↦ elim (whether (same j k)) [ inl d ↦ rw (e, d) m | inr d ↦ rw (e, d) (Memᴰ.tail m) ]
      ]
  insert-others [] m = elim m [ ]

  -- the first keys afterwards come from the first keys before
  one_less : {A : Type 0} (m : ℕ) (j : A) (js : List A) → take m (j ∷ take m js) ≡ take m (j ∷ js)
  one_less zero j js = refl
  one_less (suc m) j js = ap (λ is. j ∷ is) (take-take m (suc m) js (omega arith))

  pub insert-take : (m : ℕ) (ks : List (List ℕ)) → take m (insert k (take m ks)) ≡ take m (insert k ks)
  unfolding insert
  insert-take zero ks = refl
  insert-take (suc m) [] = refl
  insert-take (suc m) (j ∷ js) =
      elim (whether (before j k)) [
        | inl e ↦ rw e (ap (λ is. j ∷ is) (insert-take m js))
        | inr e ↦ elim (whether (same j k)) [ inl d ↦ rw (e, d) (ap (λ is. j ∷ is) (take-take m m js (omega arith))) | inr d ↦ rw (e, d) (ap (λ is. k ∷ is) (one_less m j js)) ]
      ]

  -- a key that stands there already
  pub insert_in : (ks : List (List ℕ)) → Rising before ks → k ∈ ks → insert k ks ≡ ks
  unfolding insert
  insert_in (j ∷ js) r m =
      elim (Memᴰ.cases_cons m) [
        | inl q ↦ rw (ap (λ x. before x k) (sym q) ∙ before_itself k, ap (λ x. same x k) (sym q) ∙ same_refl k)
        | inr n ↦ rw (All-at (λ i. before j i ≡ true) js r.0 n) (ap (λ is. j ∷ is) (insert_in js r.1 n))
      ]
  insert_in [] r m = elim m [ ]

  -- the place, by halves: a key that stands before it, and one that does not
  pub place-few : (ks : List (List ℕ)) → place_of k ks ≤ length ks
  unfolding place_of
  place-few [] = omega arith
  place-few (j ∷ js) = elim (whether (before j k)) [ inl e ↦ rw e (omega (arith, place-few js)) | inr e ↦ rw e (omega arith) ]

  all_get : (P : List ℕ → Type 0) (ks : List (List ℕ)) (i : ℕ) → i < length ks → All P ks → P (get_or ks i [])
  all_get P [] i h a = absurd (omega arith)
  all_get P (j ∷ js) zero h a = a.0
  all_get P (j ∷ js) (suc i) h a = all_get P js i (omega arith) a.1

  pub place-past : (ks : List (List ℕ)) → Rising before ks → (i : ℕ) → i < length ks → before (get_or ks i []) k ≡ true → i < place_of k ks
  unfolding place_of
  place-past [] r i h e = absurd (omega arith)
  place-past (j ∷ js) r zero h e = rw e (omega arith)
  place-past (j ∷ js) r (suc i) h e =
      let d = before_trans j (get_or js i []) k (all_get (λ y. before j y ≡ true) js i (omega arith) r.0) e in
      rw d (omega (arith, place-past js r.1 i (omega arith) e))

  pub place-most : (ks : List (List ℕ)) (i : ℕ) → i < length ks → before (get_or ks i []) k ≡ false → place_of k ks ≤ i
  unfolding place_of
  place-most [] i h e = absurd (omega arith)
  place-most (j ∷ js) zero h e = rw e (omega arith)
  place-most (j ∷ js) (suc i) h e = elim (whether (before j k)) [ inl d ↦ rw d (omega (arith, place-most js i (omega arith) e)) | inr d ↦ rw d (omega arith) ]

  -- the key stands at its place already, or is put in there
  pub insert-there : (ks : List (List ℕ)) → place_of k ks < length ks → same (get_or ks (place_of k ks) []) k ≡ true → insert k ks ≡ ks
  unfolding insert place_of
  insert-there [] h e = absurd (omega arith)
  insert-there (j ∷ js) h e =
      elim (whether (before j k)) [
        | inl d ↦ let h' = rw d at h in let e' = rw d at e in rw d (ap (λ is. j ∷ is) (insert-there js (omega arith) e'))
        | inr d ↦ let e' = rw d at e in rw (d, e')
      ]

  pub insert_new : (ks : List (List ℕ)) → (place_of k ks < length ks → same (get_or ks (place_of k ks) []) k ≡ false) → insert k ks ≡ insert_at (place_of k ks) k ks
  unfolding insert place_of
  insert_new [] n = refl
  insert_new (j ∷ js) n =
      elim (whether (before j k)) [
        | inl d ↦ let n' = rw d at n in rw d (ap (λ is. j ∷ is) (insert_new js (λ h. n' (omega arith))))
        | inr d ↦ let n' = rw d at n in rw (d, n' (omega arith))
      ]

  -- where the first 8,192 keys stay as they are, their places do
  pub put_again : (p : Place) (ks : List (List ℕ)) (ps : List Place) → take 8192 (insert k ks) ≡ ks → put_place k p ks ps ≡ ps
  unfolding put_place
  put_again p ks ps same-keys =
      elim (eqb_tells (place_of k ks) 8192) [
        | inl e ↦ rw e.0
        | inr e ↦ elim (whether (stands k ks)) [
          | inl t ↦ rw (e.0, t)
          | inr t ↦
              let few : length ks ≤ 8192 = omega (arith, ap length same-keys, length-take 8192 (insert k ks)) in
              let new = insert_new ks (λ h. ap (λ b. b && same (get_or ks (place_of k ks) []) k) (sym (lt-ltb (place_of k ks) (length ks) h)) ∙ t) in
              let all : take 8192 (insert_at (place_of k ks) k ks) ≡ ks = ap (take 8192) (sym new) ∙ same-keys in
              let there = inserted ks 8192 (place_of k ks) k [] (omega (arith, few, e.1, place-few ks)) (place-few ks) in
              let it : get_or ks (place_of k ks) [] ≡ k = ap (λ js. get_or js (place_of k ks) []) (sym all) ∙ there.1 in
              absurd (true_false (stands k ks) (rw (lt-ltb (place_of k ks) (length ks) (omega (arith, there.0, ap length all)), it) (same_refl k)) t)
        ]
      ]

  -- behind all keys
  pub insert-last : (ks : List (List ℕ)) → place_of k ks ≡ length ks → take (length ks) (insert k ks) ≡ ks
  insert-last ks e = ap (take (length ks)) (insert_new ks (λ h. absurd (omega arith)) ∙ ap (λ i. insert_at i k ks) e) ∙ insert-front ks (length ks) (length ks) k (omega arith) (omega arith) ∙ take_all (length ks) ks (omega arith)

  get_in : (ks : List (List ℕ)) (i : ℕ) → i < length ks → get_or ks i [] ∈ ks
  get_in [] i h = absurd (omega arith)
  get_in (j ∷ js) zero h = Memᴰ.head refl
  get_in (j ∷ js) (suc i) h = Memᴰ.tail (get_in js i (omega arith))

  -- a key that does not stand before the last one changes none of so many
  pub insert-past : (ks : List (List ℕ)) (m : ℕ) → Rising before ks → length ks ≡ suc m → before k (get_or ks m []) ≡ false → take (suc m) (insert k ks) ≡ ks
  insert-past ks m r e d =
      elim (whether (before (get_or ks m []) k)) [
        | inl t ↦
            let all : place_of k ks ≡ length ks = omega (arith, e, place-few ks, place-past ks r m (omega (arith, e)) t) in
            subst (λ n. take n (insert k ks) ≡ ks) e (insert-last ks all)
        | inr t ↦
            let q : get_or ks m [] ≡ k = before-total (get_or ks m []) k t d in
            let there : k ∈ ks = subst (λ x. x ∈ ks) q (get_in ks m (omega (arith, e))) in
            ap (take (suc m)) (insert_in ks r there) ∙ take_all (suc m) ks (omega (arith, e))
      ]
