-- How many bytes two texts have in common from their starts on. Of a line and a key that tells how the line's beginning stands to the key, and whether it
-- has the same path: what stands before the first tab.
use Rattle.std.specs.Prelude.{ℕ, zero, suc, ◌+◌, ◌≤◌, ◌<◌, min, ◌≡◌, refl, ◌⊎◌, true, false, List, [], ◌∷◌, eqb, ltb, length, take, drop, get_or}
use Rattle.std.proofs.Common.{ap, ap₂, sym, ◌∙◌, inl, inr, arith, drop_of_length-le, eq-eqb, eqb-true, le-ltb, lt-ltb, ltb-false, ltb-true, ne_eqb}
use Rattle.std.proofs.Math.Option.{Option, none, some}
use Rattle.std.proofs.lemmas.Bool.{eqb-false}
use Rattle.text_rules.specs.Bytes.{before, if◌then◌otherwise◌, same}
use Rattle.text_rules.specs.BytesLaws.{whether}
use Rattle.text_rules.specs.Classes.{tab}
use Rattle.text_rules.proofs.ScanLaws.{split}
use Rattle.text_rules.specs.Search.{bytes_before, run}

unfoldable pub common : List ℕ → List ℕ → ℕ
common [] t = 0
common (x ∷ l) [] = 0
common (x ∷ l) (y ∷ t) = if eqb x y then suc (common l t) otherwise 0

-- with a key, where there is one
abbrev pub common_with : Option (List ℕ) → List ℕ → ℕ
common_with none t = 0
common_with (some l) t = common l t

-- ---- byte by byte

common-same : (x : ℕ) (l t : List ℕ) → common (x ∷ l) (x ∷ t) ≡ suc (common l t)
unfolding common
common-same x l t = rw (eq-eqb x x refl)

common-other : (x y : ℕ) (l t : List ℕ) → eqb x y ≡ false → common (x ∷ l) (y ∷ t) ≡ 0
unfolding common
common-other x y l t e = rw e

none_left : (l : List ℕ) → common l [] ≡ 0
unfolding common
none_left [] = refl
none_left (x ∷ l) = refl

module _ (s t : List ℕ) (i : ℕ) where
  pub common-more : i < length s → i < length t → get_or s i 0 ≡ get_or t i 0 → common (drop i s) (drop i t) ≡ suc (common (drop (i + 1) s) (drop (i + 1) t))
  common-more h k e =
      rw (split s i h, split t i k, e) (common-same (get_or t i 0) (drop (i + 1) s) (drop (i + 1) t))

  pub common-stop : i < length s → i < length t → (get_or s i 0 ≡ get_or t i 0 → ⊥) → common (drop i s) (drop i t) ≡ 0
  common-stop h k e =
      rw (split s i h, split t i k) (common-other (get_or s i 0) (get_or t i 0) (drop (i + 1) s) (drop (i + 1) t) (ne_eqb (get_or s i 0) (get_or t i 0) e))

  end-first : length s ≤ i → common (drop i s) (drop i t) ≡ 0
  unfolding common
  end-first h = rw (drop_of_length-le s h)

  end-second : length t ≤ i → common (drop i s) (drop i t) ≡ 0
  end-second h = rw (drop_of_length-le t h) (none_left (drop i s))

  pub common-end : min (length s) (length t) ≤ i → common (drop i s) (drop i t) ≡ 0
  common-end h =
      elim (whether (ltb i (length s))) [
        | inl e ↦ end-second (omega (arith, ltb-true i (length s) e))
        | inr e ↦ end-first (ltb-false i (length s) e)
      ]

-- one byte more behind a place
pub common-next : (s t : List ℕ) (at i n : ℕ) → at + i < length s → at + i < length t → get_or s (at + i) 0 ≡ get_or t (at + i) 0
    → n ≡ i + common (drop (at + i) s) (drop (at + i) t) → n ≡ i + 1 + common (drop (at + (i + 1)) s) (drop (at + (i + 1)) t)
common-next s t at i n h k e q =
    let there : at + i + 1 ≡ at + (i + 1) = omega arith in
    let more : common (drop (at + i) s) (drop (at + i) t) ≡ suc (common (drop (at + (i + 1)) s) (drop (at + (i + 1)) t)) =
    common-more s t (at + i) h k e ∙ ap (λ (j : ℕ). suc (common (drop j s) (drop j t))) there in
    omega (arith, q, more)

pub common-most : (l t : List ℕ) → common l t ≤ length t
unfolding common
common-most [] t = omega arith
common-most (x ∷ l) [] = omega arith
common-most (x ∷ l) (y ∷ t) = elim (whether (eqb x y)) [ inl e ↦ rw e (omega (arith, common-most l t)) | inr e ↦ rw e (omega arith) ]

pub common-least : (l t : List ℕ) → common l t ≤ length l
unfolding common
common-least [] t = omega arith
common-least (x ∷ l) [] = omega arith
common-least (x ∷ l) (y ∷ t) = elim (whether (eqb x y)) [ inl e ↦ rw e (omega (arith, common-least l t)) | inr e ↦ rw e (omega arith) ]

pub common_bytes : (l t : List ℕ) (i : ℕ) → i < common l t → get_or l i 0 ≡ get_or t i 0
unfolding common
common_bytes [] t i h = absurd (omega arith)
common_bytes (x ∷ l) [] i h = absurd (omega arith)
common_bytes (x ∷ l) (y ∷ t) zero h =
    elim (whether (eqb x y)) [
      | inl e ↦ eqb-true x y e
      | inr e ↦ let h' = rw e at h in absurd (omega arith)
    ]
common_bytes (x ∷ l) (y ∷ t) (suc i) h =
    elim (whether (eqb x y)) [
      | inl e ↦ let h' = rw e at h in common_bytes l t i (omega arith)
      | inr e ↦ let h' = rw e at h in absurd (omega arith)
    ]

-- with the beginning of a text
pub common-take : (l t : List ℕ) (n : ℕ) → common l (take n t) ≡ min (common l t) n
unfolding common
common-take [] t n = omega arith
common-take (x ∷ l) t zero = omega arith
common-take (x ∷ l) [] (suc n) = omega arith
common-take (x ∷ l) (y ∷ t) (suc n) = elim (whether (eqb x y)) [ inl e ↦ rw e (omega (arith, common-take l t n)) | inr e ↦ rw e (omega arith) ]

-- ---- the first c bytes of t against l

by_bytes : (x y : ℕ) → eqb x y ≡ true → (ltb y x ≡ false) × (eqb y x ≡ true)
by_bytes x y e = let q = eqb-true x y e in (le-ltb y x (omega arith), eq-eqb y x (sym q))

ltb_suc : (m n : ℕ) → ltb m n ≡ ltb (suc m) (suc n)
ltb_suc m n =
    elim (whether (ltb m n)) [
      | inl e ↦ e ∙ sym (lt-ltb (suc m) (suc n) (omega (arith, ltb-true m n e)))
      | inr e ↦ e ∙ sym (le-ltb (suc m) (suc n) (omega (arith, ltb-false m n e)))
    ]

eqb_suc : (m n : ℕ) → eqb m n ≡ eqb (suc m) (suc n)
eqb_suc m n =
    elim (whether (eqb m n)) [
      | inl e ↦ e ∙ sym (eq-eqb (suc m) (suc n) (ap suc (eqb-true m n e)))
      | inr e ↦ e ∙ sym (ne_eqb (suc m) (suc n) (λ q. eqb-false m n e (omega arith)))
    ]

-- they are the beginning of l
pub before-within : (l t : List ℕ) (c : ℕ) → c ≤ common l t → before (take c t) l ≡ ltb c (length l)
unfolding common
before-within [] t zero h = refl
before-within (x ∷ l) t zero h = sym (lt-ltb 0 (length (x ∷ l)) (omega arith))
before-within [] t (suc c) h = absurd (omega arith)
before-within (x ∷ l) [] (suc c) h = absurd (omega arith)
before-within (x ∷ l) (y ∷ t) (suc c) h =
    elim (whether (eqb x y)) [
      | inl e ↦
          let h' = rw e at h in
          let b = by_bytes x y e in
          rw (b.0, b.1) (before-within l t c (omega arith) ∙ ltb_suc c (length l))
      | inr e ↦ let h' = rw e at h in absurd (omega arith)
    ]

pub same-within : (l t : List ℕ) (c : ℕ) → c ≤ common l t → c ≤ length t → same l (take c t) ≡ eqb (length l) c
unfolding common
same-within [] t zero h k = refl
same-within (x ∷ l) t zero h k = sym (ne_eqb (length (x ∷ l)) 0 (λ e. omega arith))
same-within [] t (suc c) h k = absurd (omega arith)
same-within (x ∷ l) [] (suc c) h k = absurd (omega arith)
same-within (x ∷ l) (y ∷ t) (suc c) h k =
    elim (whether (eqb x y)) [
      | inl e ↦ let h' = rw e at h in rw e (same-within l t c (omega arith) (omega arith) ∙ eqb_suc (length l) c)
      | inr e ↦ let h' = rw e at h in absurd (omega arith)
    ]

-- they go on where l ends, or where the two differ
pub before-past : (l t : List ℕ) (c : ℕ) → common l t < c → length l ≤ common l t → before (take c t) l ≡ false
unfolding common
before-past l t zero h k = absurd (omega arith)
before-past [] [] (suc c) h k = refl
before-past [] (y ∷ t) (suc c) h k = refl
before-past (x ∷ l) [] (suc c) h k = absurd (omega arith)
before-past (x ∷ l) (y ∷ t) (suc c) h k =
    elim (whether (eqb x y)) [
      | inl e ↦
          let h' = rw e at h in
          let k' = rw e at k in
          let b = by_bytes x y e in
          rw (b.0, b.1) (before-past l t c (omega arith) (omega arith))
      | inr e ↦ let k' = rw e at k in absurd (omega arith)
    ]

pub before-there : (l t : List ℕ) (c : ℕ) → common l t < c → c ≤ length t → common l t < length l → before (take c t) l ≡ ltb (get_or t (common l t) 0) (get_or l (common l t) 0)
unfolding common
before-there l t zero h i k = absurd (omega arith)
before-there [] t (suc c) h i k = absurd (omega arith)
before-there (x ∷ l) [] (suc c) h i k = absurd (omega arith)
before-there (x ∷ l) (y ∷ t) (suc c) h i k =
    elim (whether (eqb x y)) [
      | inl e ↦
          let h' = rw e at h in
          let k' = rw e at k in
          let b = by_bytes x y e in
          rw (e, b.0, b.1) (before-there l t c (omega arith) (omega arith) (omega arith))
      | inr e ↦ rw e (other_byte (whether (ltb y x)) e)
    ]
  where
    other_byte : (ltb y x ≡ true) ⊎ (ltb y x ≡ false) → eqb x y ≡ false → before (y ∷ take c t) (x ∷ l) ≡ ltb y x
    other_byte (inl d) e = rw d
    other_byte (inr d) e = rw (d, ne_eqb y x (λ q. eqb-false x y e (sym q)))

pub same-there : (l t : List ℕ) (c : ℕ) → common l t < c → c ≤ length t → same l (take c t) ≡ false
unfolding common
same-there l t zero h i = absurd (omega arith)
same-there [] [] (suc c) h i = absurd (omega arith)
same-there [] (y ∷ t) (suc c) h i = refl
same-there (x ∷ l) [] (suc c) h i = absurd (omega arith)
same-there (x ∷ l) (y ∷ t) (suc c) h i =
    elim (whether (eqb x y)) [
      | inl e ↦ let h' = rw e at h in rw e (same-there l t c (omega arith) (omega arith))
      | inr e ↦ rw e
    ]

-- ---- the path

at_once : (x b : ℕ) (l : List ℕ) → eqb b x ≡ true → bytes_before x (b ∷ l) ≡ 0
unfolding run
at_once x b l e = rw (e, run)

later : (x b : ℕ) (l : List ℕ) → eqb b x ≡ false → bytes_before x (b ∷ l) ≡ suc (bytes_before x l)
unfolding run
later x b l e = rw (e, run)

-- what stands before the first tab
abbrev front : List ℕ → List ℕ
front l = take (bytes_before tab l) l

-- texts that have the path and the tab of l in common have the path
pub common-path : (l t : List ℕ) (c : ℕ) → bytes_before tab l < common l t → bytes_before tab l < c → (bytes_before tab (take c t) ≡ bytes_before tab l) × (front (take c t) ≡ front l)
unfolding common
common-path l t zero h k = absurd (omega arith)
common-path [] t (suc c) h k = absurd (omega arith)
common-path (x ∷ l) [] (suc c) h k = absurd (omega arith)
common-path (x ∷ l) (y ∷ t) (suc c) h k =
    elim (whether (eqb x y)) [
      | inl e ↦ elim (whether (eqb x tab)) [
        | inl d ↦
            let q = eqb-true x y e in
            let a = at_once tab x l d in
            let b = at_once tab y (take c t) (sym (ap (λ z. eqb z tab) q) ∙ d) in
            (b ∙ sym a, ap (λ n. take n (y ∷ take c t)) b ∙ sym (ap (λ n. take n (x ∷ l)) a))
        | inr d ↦
            let q = eqb-true x y e in
            let a = later tab x l d in
            let b = later tab y (take c t) (sym (ap (λ z. eqb z tab) q) ∙ d) in
            let h' = rw e at h in
            let r = common-path l t c (omega (arith, a)) (omega (arith, a)) in
            (b ∙ ap suc r.0 ∙ sym a, ap (λ n. take n (y ∷ take c t)) b ∙ ap₂ (λ z p. z ∷ p) (sym q) r.1 ∙ sym (ap (λ n. take n (x ∷ l)) a))
      ]
      | inr e ↦ let h' = rw e at h in absurd (omega arith)
    ]

-- a beginning that goes past the path has it
pub front-path : (t : List ℕ) (c : ℕ) → bytes_before tab t < c → bytes_before tab (take c t) ≡ bytes_before tab t
front-path t zero h = absurd (omega arith)
front-path [] (suc c) h = refl
front-path (b ∷ t) (suc c) h =
    elim (whether (eqb b tab)) [
      | inl e ↦ at_once tab b (take c t) e ∙ sym (at_once tab b t e)
      | inr e ↦
          let a = later tab b t e in
          later tab b (take c t) e ∙ ap suc (front-path t c (omega (arith, a))) ∙ sym a
    ]
