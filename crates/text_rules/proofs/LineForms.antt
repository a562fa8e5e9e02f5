-- Lines and fields by their bounds, as code meets them: a piece ends at the next mark, or at the end of the text.
use Rattle.std.specs.Prelude.{ℕ, zero, suc, ◌+◌, ◌-◌, ◌≤◌, ◌<◌, ◌≡◌, refl, Bool, true, false, List, [], ◌∷◌, ◌++◌, eqb, length, take, drop, get_or}
use Rattle.std.proofs.Common.{ap, ap₂, sym, ◌∙◌, inl, inr, add-one, length-drop, drop-drop, get_or-drop, take_all, eq-eqb, eqb-true, ne_eqb}
use native.Mathlib.Omega.{arith}
use Rattle.text_rules.specs.Bytes.{if◌then◌otherwise◌}
use Rattle.text_rules.specs.BytesLaws.{whether}
use Rattle.text_rules.specs.Lines.{ended, in_front, lines_in, split, without_cr}
use Rattle.text_rules.proofs.LinesLaws.{split-some}
use Rattle.text_rules.specs.Search.{bytes_before, part, run}

-- the bytes before a mark, behind one byte more
before-mark : (x b : ℕ) (s : List ℕ) → eqb b x ≡ true → bytes_before x (b ∷ s) ≡ 0
unfolding run
before-mark x b s t = rw (t, run)

before-unmarked : (x b : ℕ) (s : List ℕ) → eqb b x ≡ false → bytes_before x (b ∷ s) ≡ suc (bytes_before x s)
unfolding run
before-unmarked x b s t = rw (t, run)

-- the first piece ends at the first mark
split_at : (x : ℕ) (s : List ℕ) (n : ℕ) → n ≡ bytes_before x s → n < length s → split x s ≡ take n s ∷ split x (drop (suc n) s)
unfolding split in_front
split_at x [] n e h = absurd (omega arith)
split_at x (b ∷ s) zero e h =
    elim (whether (eqb b x)) [
      | inl t ↦ rw t
      | inr t ↦ absurd (omega (arith, before-unmarked x b s t))
    ]
split_at x (b ∷ s) (suc n) e h =
    elim (whether (eqb b x)) [
      | inl t ↦ absurd (omega (arith, before-mark x b s t))
      | inr t ↦ rw (t, split_at x s n (omega (arith, before-unmarked x b s t)) (omega arith))
    ]

-- a text in which no mark comes is one piece
split-whole : (x : ℕ) (s : List ℕ) → length s ≤ bytes_before x s → split x s ≡ s ∷ []
unfolding split in_front
split-whole x [] h = refl
split-whole x (b ∷ s) h =
    elim (whether (eqb b x)) [
      | inl t ↦ absurd (omega (arith, before-mark x b s t))
      | inr t ↦ rw (t, split-whole x s (omega (arith, before-unmarked x b s t)))
    ]

mark-at : (x : ℕ) (s : List ℕ) (n : ℕ) → n ≡ bytes_before x s → n < length s → get_or s n 0 ≡ x
mark-at x [] n e h = absurd (omega arith)
mark-at x (b ∷ s) zero e h =
    elim (whether (eqb b x)) [
      | inl t ↦ eqb-true b x t
      | inr t ↦ absurd (omega (arith, before-unmarked x b s t))
    ]
mark-at x (b ∷ s) (suc n) e h =
    elim (whether (eqb b x)) [
      | inl t ↦ absurd (omega (arith, before-mark x b s t))
      | inr t ↦ mark-at x s n (omega (arith, before-unmarked x b s t)) (omega arith)
    ]

-- the piece that begins at `from` ends at `end`
module _ (x : ℕ) (s : List ℕ) (from end : ℕ) (e : end ≡ from + bytes_before x (drop from s)) where
  count : end - from ≡ bytes_before x (drop from s)
  count = omega arith

  pub piece-next : end < length s → split x (drop from s) ≡ part from end s ∷ split x (drop (end + 1) s)
  piece-next h =
      let place : from + suc (end - from) ≡ end + 1 = omega arith in
      split_at x (drop from s) (end - from) count (omega (arith, length-drop from s))
      ∙ ap (λ r. part from end s ∷ split x r) (drop-drop (suc (end - from)) from s ∙ ap (λ n. drop n s) place)

  pub piece-last : length s ≤ end → split x (drop from s) ≡ part from end s ∷ []
  piece-last h =
      split-whole x (drop from s) (omega (arith, length-drop from s))
      ∙ ap (λ r. r ∷ []) (sym (take_all (end - from) (drop from s) (omega (arith, length-drop from s))))

  pub piece-mark : end < length s → get_or s end 0 ≡ x
  piece-mark h =
      let place : from + (end - from) ≡ end = omega arith in
      ap (λ n. get_or s n 0) (sym place) ∙ sym (get_or-drop from s (end - from) 0) ∙ mark-at x (drop from s) (end - from) count (omega (arith, length-drop from s))

module _ (s : List ℕ) (from end : ℕ) (e : end ≡ from + bytes_before 10 (drop from s)) where
  pub line-next : end < length s → lines_in (drop from s) ≡ without_cr (part from end s) ∷ lines_in (drop (end + 1) s)
  unfolding lines_in ended
  line-next h =
      let (p, ps, q) = split-some 10 (drop (end + 1) s) in
      rw (piece-next 10 s from end e h, q)

  pub line-last : length s ≤ end → lines_in (drop from s) ≡ part from end s ∷ []
  unfolding lines_in ended
  line-last h = rw (piece-last 10 s from end e h)

-- the last byte of a line decides what it loses
pub cons_if : (t : Bool) (b : ℕ) (x y : List ℕ) → b ∷ (if t then x otherwise y) ≡ (if t then b ∷ x otherwise b ∷ y)
cons_if true b x y = refl
cons_if false b x y = refl

trim : (s : List ℕ) (n : ℕ) → n < length s → without_cr (take (suc n) s) ≡ (if eqb (get_or s n 0) 13 then take n s otherwise take (suc n) s)
unfolding without_cr
trim [] n h = absurd (omega arith)
trim (b ∷ s) zero h = refl
trim (b ∷ []) (suc n) h = absurd (omega arith)
trim (b ∷ c ∷ s) (suc n) h = ap (λ r. b ∷ r) (trim (c ∷ s) n (omega arith)) ∙ cons_if (eqb (get_or (c ∷ s) n 0) 13) b (take n (c ∷ s)) (take (suc n) (c ∷ s))

module _ (s : List ℕ) (from end : ℕ) where
  pub trim-none : end ≤ from → without_cr (part from end s) ≡ part from end s
  unfolding without_cr
  trim-none h = let z : end - from ≡ 0 = omega arith in rw z

  module _ (h : from < end) (k : end ≤ length s) where
    trim-part : without_cr (part from end s) ≡ (if eqb (get_or s (end - 1) 0) 13 then part from (end - 1) s otherwise part from end s)
    trim-part =
        let n : ℕ = end - 1 - from in
        let one : suc n ≡ end - from = omega arith in
        let place : from + n ≡ end - 1 = omega arith in
        let b : get_or (drop from s) n 0 ≡ get_or s (end - 1) 0 = get_or-drop from s n 0 ∙ ap (λ m. get_or s m 0) place in
        ap (λ m. without_cr (take m (drop from s))) (sym one)
        ∙ trim (drop from s) n (omega (arith, length-drop from s))
        ∙ ap₂ (λ (c m : ℕ). if eqb c 13 then take n (drop from s) otherwise take m (drop from s)) b one

    pub trim-cr : get_or s (end - 1) 0 ≡ 13 → without_cr (part from end s) ≡ part from (end - 1) s
    trim-cr q = trim-part ∙ rw (eq-eqb (get_or s (end - 1) 0) 13 q)

    pub trim-other : (get_or s (end - 1) 0 ≡ 13 → ⊥) → without_cr (part from end s) ≡ part from end s
    trim-other q = trim-part ∙ rw (ne_eqb (get_or s (end - 1) 0) 13 q)

-- two parts with the byte between them
parts-joined : (s : List ℕ) (m k n : ℕ) → n ≡ suc (m + k) → m < length s → take m s ++ get_or s m 0 ∷ take k (drop (suc m) s) ≡ take n s
parts-joined [] m k n e h = absurd (omega arith)
parts-joined (b ∷ s) m k zero e h = absurd (omega arith)
parts-joined (b ∷ s) zero k (suc n) e h = let q : k ≡ n = omega arith in ap (λ i. b ∷ take i s) q
parts-joined (b ∷ s) (suc m) k (suc n) e h = ap (λ r. b ∷ r) (parts-joined s m k n (omega arith) (omega arith))

pub part-joined : (s : List ℕ) (m n : ℕ) → m < n → n ≤ length s → take m s ++ get_or s m 0 ∷ part (m + 1) n s ≡ take n s
part-joined s m n h k = rw (add-one m) (parts-joined s m (n - suc m) n (omega arith) (omega arith))
