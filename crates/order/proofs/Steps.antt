-- One step of the comparison of two texts in byte order, at a place.
use Prim.Native.Nat.{ℕ, ◌+◌, ◌≤◌, ◌<◌}
use mathlib.Core.Path.{◌≡◌, refl, ap, ap₂, ◌∙◌}
use mathlib.Core.Bool.{true, false, ◌&&◌, ◌||◌}
use mathlib.Core.List.{List, [], ◌∷◌}
use lib.Dec.{eqb, ltb}
use lib.ListN.{length, drop, get_or, drop_of_length-le}
use borrow.Author.Tests.{eq-eqb, le-ltb, lt-ltb, ne_eqb}
use Rattle.text_rules.specs.Bytes.{before}
use Rattle.text_rules.proofs.ScanLaws.{split}

none_before : (s : List ℕ) → before s [] ≡ false
none_before [] = refl
none_before (b ∷ s) = refl

module _ (s t : List ℕ) (i : ℕ) where
  -- a text that ends stands before one that goes on
  pub before_shorter : length s ≤ i → i < length t → before (drop i s) (drop i t) ≡ true
  before_shorter h k = ap₂ before (drop_of_length-le s h) (split t i k)

  pub before_longer : length t ≤ i → before (drop i s) (drop i t) ≡ false
  before_longer h = ap (before (drop i s)) (drop_of_length-le t h) ∙ none_before (drop i s)

  module _ (h : i < length s) (k : i < length t) where
    before-step : before (drop i s) (drop i t) ≡ (ltb (get_or s i 0) (get_or t i 0) || (eqb (get_or s i 0) (get_or t i 0) && before (drop (i + 1) s) (drop (i + 1) t)))
    before-step = ap₂ before (split s i h) (split t i k)

    pub before_lower : get_or s i 0 < get_or t i 0 → before (drop i s) (drop i t) ≡ true
    before_lower l = before-step ∙ rw (lt-ltb (get_or s i 0) (get_or t i 0) l)

    pub before-other : get_or t i 0 ≤ get_or s i 0 → (get_or s i 0 ≡ get_or t i 0 → ⊥) → before (drop i s) (drop i t) ≡ false
    before-other l n = before-step ∙ rw (le-ltb (get_or s i 0) (get_or t i 0) l, ne_eqb (get_or s i 0) (get_or t i 0) n)

    pub before_same : get_or t i 0 ≤ get_or s i 0 → get_or s i 0 ≡ get_or t i 0 → before (drop i s) (drop i t) ≡ before (drop (i + 1) s) (drop (i + 1) t)
    before_same l e = before-step ∙ rw (le-ltb (get_or s i 0) (get_or t i 0) l, eq-eqb (get_or s i 0) (get_or t i 0) e)
