-- The keys that are held, after one key more.
use Rattle.std.specs.List.{refill}
use Rattle.std.proofs.Math.Seq.{take-append_seam}
use Rattle.std.proofs.lemmas.List.{append_assoc, drop-drop, length-append, length-drop, take-append-drop}
use Rattle.std.proofs.lemmas.Slice.{drop-put_mid, take-put_mid}
use Rattle.std.proofs.Common.{◌++◌, ◌∷◌, drop, drop_of_length-le, ℕ, zero, ◌&&◌, ◌+◌, ◌≤◌, ◌<◌, ◌≡◌, ◌≢◌, eqb, ap, ap₂, subst, sym, ◌∙◌, true, false, suc, inl, inr, ltb, ltb-true, ltb-false, List, [], length, length-take, take, take_all, get_or, arith}
use Rattle.text_rules.specs.Bytes.{All, before, same}
use borrow.Author.Tests.{eq-eqb, lt-ltb, ne_eqb}
use Rattle.text_rules.specs.BytesLaws.{and_left, and_right, whether}
use Rattle.text_rules.specs.Selection.{Rising}
use Rattle.sorted_keys.specs.Held.{Held, Lies, bytes_at, keys_at, map-length, put-inside, put-keys, take-rising}
use Rattle.sorted_keys.specs.Insert.{insert, insert-last, insert_new, insert-rising, insert-there, insert_at, place-few, place-most, place-past, place_of, put_place}
use Rattle.sorted_keys.specs.declared.Place.{Place}

module _ (ks : List (List ℕ)) (rise : Rising before ks) (b : List ℕ) where
  -- the place, by the key in front of it and the one that stands there
  pub place_is : (at : ℕ) → at ≤ length ks → ((i : ℕ) → i + 1 ≡ at → before (get_or ks i []) b ≡ true)
      → (at < length ks → before (get_or ks at []) b ≡ false) → at ≡ place_of b ks
  place_is at few ahead here = omega (arith, least at few ahead, most few here)
    where
      least : (at : ℕ) → at ≤ length ks → ((i : ℕ) → i + 1 ≡ at → before (get_or ks i []) b ≡ true) → at ≤ place_of b ks
      least zero few ahead = omega arith
      least (suc i) few ahead = place-past b ks rise i (omega arith) (ahead i (omega arith))

      most : at ≤ length ks → (at < length ks → before (get_or ks at []) b ≡ false) → place_of b ks ≤ at
      most few here = elim (whether (ltb at (length ks))) [
        | inl t ↦ let l = ltb-true at (length ks) t in place-most b ks at l (here l)
        | inr t ↦ omega (arith, ltb-false at (length ks) t, place-few b ks)
      ]

module _ (ks : List (List ℕ)) (most : length ks ≤ 8192) (b : List ℕ) (at : ℕ) (place : at ≡ place_of b ks) (few : at ≤ length ks) where
  -- the key is behind 8,192 others
  pub behind-all : at ≡ 8192 → ks ≡ take 8192 (insert b ks)
  behind-all e =
      let n : length ks ≡ 8192 = omega (arith, e, few, most) in
      sym (subst (λ j. take j (insert b ks) ≡ ks) n (insert-last b ks (sym place ∙ e ∙ sym n)))

  -- it stands there already
  pub there : (ltb at (length ks) && same (get_or ks at []) b) ≡ true → ks ≡ take 8192 (insert b ks)
  there t =
      let l = ltb-true at (length ks) (and_left (ltb at (length ks)) _ t) in
      let e = and_right (ltb at (length ks)) _ t in
      let q = insert-there b ks (omega (arith, place, l)) (ap (λ i. same (get_or ks i []) b) (sym place) ∙ e) in
      sym (ap (take 8192) q ∙ take_all 8192 ks most)

  -- it is put in
  pub added : (ltb at (length ks) && same (get_or ks at []) b) ≡ false → take 8192 (insert_at at b ks) ≡ take 8192 (insert b ks)
  added e =
      let other : place_of b ks < length ks → same (get_or ks (place_of b ks) []) b ≡ false =
      λ i.
      let l : at < length ks = omega (arith, place, i) in
      ap (λ j. same (get_or ks j []) b) (sym place) ∙ sym (ap (λ t. t && same (get_or ks at []) b) (lt-ltb at (length ks) l)) ∙ e in
      sym (ap (take 8192) (insert_new b ks other ∙ ap (λ i. insert_at i b ks) (sym place)))

-- what becomes of the places, by the same ways
module _ (ks : List (List ℕ)) (b : List ℕ) (at : ℕ) (place : at ≡ place_of b ks) (p : Place) (ps : List Place) where
  pub places-behind : at ≡ 8192 → ps ≡ put_place b p ks ps
  unfolding put_place
  places-behind e = rw (← place, eq-eqb at 8192 e)

  pub places-there : (ltb at (length ks) && same (get_or ks at []) b) ≡ true → ps ≡ put_place b p ks ps
  unfolding put_place
  places-there t = elim (whether (eqb at 8192)) [ inl e ↦ rw (← place, e) | inr e ↦ rw (← place, e, t) ]

  pub places-put : at ≢ 8192 → (ltb at (length ks) && same (get_or ks at []) b) ≡ false → take 8192 (insert_at at p ps) ≡ put_place b p ks ps
  unfolding put_place
  places-put n t = rw (← place, ne_eqb at 8192 n, t)

-- a place put in, where `ks` are the keys that are seen
module _ (s : List ℕ) (ps new : List Place) (h : Held s ps) (ks : List (List ℕ)) (seen : keys_at s ps ≡ ks) (b : List ℕ) (at : ℕ) (p : Place) (w : new ≡ take 8192 (insert_at at p ps))
    (q : bytes_at s p ≡ b) (k : take 8192 (insert_at at b ks) ≡ take 8192 (insert b ks)) where
  pub keys_now : keys_at s new ≡ take 8192 (insert b ks)
  keys_now = ap (keys_at s) w ∙ put-keys s at p ps ∙ ap₂ (λ j js. take 8192 (insert_at at j js)) q seen ∙ k

  pub held_now : Lies s p → Held s new
  held_now l =
      record {
        few = omega (arith, ap length w, length-take 8192 (insert_at at p ps));
        inside = subst (All (Lies s)) (sym w) (put-inside s at p ps l h.inside);
        rising = subst (Rising before) (sym keys_now) (take-rising 8192 (insert b ks) (insert-rising b ks (subst (Rising before) seen h.rising)));
      }

-- there are at most 8,192 keys
pub few-keys : (s : List ℕ) (ps : List Place) → Held s ps → (ks : List (List ℕ)) → keys_at s ps ≡ ks → length ks ≤ 8192
few-keys s ps h ks e = omega (arith, ap length e, map-length (bytes_at s) ps, h.few)

-- items written anew as a whole
pub refill-all : {A : Type 0} (n : ℕ) (xs ws : List A) → n ≡ length xs → length ws ≡ length xs → refill n xs ws ≡ ws
refill-all n xs ws e f =
    let w : n ≡ length ws = omega (arith, e, f) in
    let none : drop (length ws) xs ≡ [] = drop_of_length-le xs (omega (arith, f)) in
    ap (λ k. take k (ws ++ drop (length ws) xs)) w ∙ ap (λ l. take (length ws) (ws ++ l)) none ∙ take-append_seam ws []

-- put in at the end, an element stands behind all
pub insert-end : {A : Type 0} (at : ℕ) (x : A) (xs : List A) → at ≡ length xs → insert_at at x xs ≡ xs ++ x ∷ []
insert-end at x xs e =
    let all : take at xs ≡ xs = ap (λ k. take k xs) e ∙ take_all (length xs) xs (omega arith) in
    let none : drop at xs ≡ [] = drop_of_length-le xs (omega (arith, e)) in
    ap₂ (λ a b. a ++ x ∷ b) all none

-- a list with others in place of the `n` elements from `a` on
abbrev pub with_part : {A : Type 0} (a n : ℕ) (xs ws : List A) → List A
with_part a n xs ws = take a xs ++ (ws ++ drop n (drop a xs))

-- the elements of a part, moved by one: one stands in front, and the last one is put in behind the part
module _ {A : Type 0} (a n : ℕ) (xs ws : List A) (x y : A) (fits : a + n ≤ length xs) (part : ws ++ y ∷ [] ≡ x ∷ take n (drop a xs)) where
  as-many : length ws ≡ n
  as-many = omega (arith, fits, length-append ws (y ∷ []), ap length part, length-take n (drop a xs), length-drop a xs)

  pub moved-length : length (with_part a n xs ws) ≡ length xs
  moved-length =
      omega (
        arith,
        fits,
        as-many,
        length-append (take a xs) (ws ++ drop n (drop a xs)),
        length-append ws (drop n (drop a xs)),
        length-take a xs,
        length-drop n (drop a xs),
        length-drop a xs,
      )

  pub moved : insert_at (a + n) y (with_part a n xs ws) ≡ insert_at a x xs
  moved =
      let rest = drop n (drop a xs) in
      let front : take (a + n) (with_part a n xs ws) ≡ take a xs ++ ws = take-put_mid a n xs ws (a + n) (ap (λ k. a + k) (sym as-many)) (omega (arith, fits)) in
      let behind : drop (a + n) (with_part a n xs ws) ≡ rest = drop-put_mid a n xs ws (a + n) (omega arith) (omega (arith, fits)) as-many ∙ sym (drop-drop n a xs) in
      let from : ws ++ y ∷ rest ≡ x ∷ drop a xs = sym (append_assoc ws (y ∷ []) rest) ∙ ap (λ b. b ++ rest) part ∙ ap (λ b. x ∷ b) (take-append-drop n (drop a xs)) in
      ap₂ (λ b c. b ++ y ∷ c) front behind ∙ append_assoc (take a xs) ws (y ∷ rest) ∙ ap (λ b. take a xs ++ b) from
