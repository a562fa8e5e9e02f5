-- One step of each comparison of texts at a place: the last byte, two texts, and a word as the beginning of a text.
-- Places are counted as in code, by `i + 1`.
use Rattle.std.specs.Prelude.{ℕ, suc, ◌+◌, ◌-◌, ◌≤◌, ◌<◌, ◌≡◌, refl, ◌≢◌, true, false, ◌&&◌, List, [], ◌∷◌, eqb, drop, get_or, length}
use Rattle.std.proofs.Common.{ap, ◌∙◌, inl, inr, arith, drop_of_length-le}
use borrow.Author.Tests.{eq-eqb, ne_eqb}
use Rattle.text_rules.specs.Bytes.{same}
use Rattle.text_rules.specs.BytesLaws.{same_true, whether}
use Rattle.text_rules.proofs.ScanLaws.{split}
use Rattle.text_rules.specs.Search.{ends_in, starts_with}

-- the last byte
pub ends_last : (x : ℕ) (s : List ℕ) → 1 ≤ length s → ends_in x s ≡ eqb (get_or s (length s - 1) 0) x
unfolding ends_in
ends_last x [] h = absurd (omega arith)
ends_last x (b ∷ []) h = refl
ends_last x (b ∷ c ∷ s) h =
    let e : suc (length (c ∷ s) - 1) ≡ length (b ∷ c ∷ s) - 1 = omega arith in
    ends_last x (c ∷ s) (omega arith) ∙ ap (λ k. eqb (get_or (b ∷ c ∷ s) k 0) x) e

-- two texts, byte by byte
pub same_length : (s t : List ℕ) → length s ≢ length t → same s t ≡ false
same_length s t n = elim (whether (same s t)) [ inl e ↦ absurd (n (ap length (same_true s t e))) | inr e ↦ e ]

module _ (s t : List ℕ) (i : ℕ) where
  module _ (h : i < length s) (k : i < length t) where
    same_step : same (drop i s) (drop i t) ≡ (eqb (get_or s i 0) (get_or t i 0) && same (drop (i + 1) s) (drop (i + 1) t))
    same_step = rw (split s i h, split t i k)

    pub same_more : get_or s i 0 ≡ get_or t i 0 → same (drop i s) (drop i t) ≡ same (drop (i + 1) s) (drop (i + 1) t)
    same_more e = same_step ∙ rw (eq-eqb _ _ e)

    pub same_stop : get_or s i 0 ≢ get_or t i 0 → same (drop i s) (drop i t) ≡ false
    same_stop e = same_step ∙ rw (ne_eqb _ _ e)

  pub same_end : length s ≤ i → length t ≤ i → same (drop i s) (drop i t) ≡ true
  same_end h k = rw (drop_of_length-le s h, drop_of_length-le t k)

-- a word from its byte i on, as the beginning of a text
module _ (word : List ℕ) (i : ℕ) where
  pub begins-end : (t : List ℕ) → length word ≤ i → starts_with (drop i word) t ≡ true
  unfolding starts_with
  begins-end t h = rw (drop_of_length-le word h)

  module _ (h : i < length word) (t : List ℕ) where
    pub begins-none : t ≡ [] → starts_with (drop i word) t ≡ false
    unfolding starts_with
    begins-none e = rw (e, split word i h)

    module _ (b : ℕ) (r : List ℕ) (e : t ≡ b ∷ r) where
      pub begins-stop : b ≢ get_or word i 0 → starts_with (drop i word) t ≡ false
      unfolding starts_with
      begins-stop n = rw (e, split word i h, ne_eqb b (get_or word i 0) n)

      pub begins-more : b ≡ get_or word i 0 → starts_with (drop i word) t ≡ starts_with (drop (i + 1) word) r
      unfolding starts_with
      begins-more q = rw (e, split word i h, eq-eqb b (get_or word i 0) q)
