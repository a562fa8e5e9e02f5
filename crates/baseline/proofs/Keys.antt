-- A key compared without a copy of it.
use Prim.Native.Nat.{ℕ, suc, ◌+◌, ◌≤◌, ◌<◌}
use mathlib.Core.Path.{◌≡◌, refl, ap, ◌∙◌}
use mathlib.Core.Logic.{inl, inr}
use mathlib.Core.Bool.{Bool, true, false, ◌&&◌}
use mathlib.Core.List.{List, [], ◌∷◌, ◌++◌}
use native.Mathlib.Omega.{arith}
use native.Mathlib.Numerals.{add-one}
use lib.Dec.{eqb}
use lib.ListN.{length, take, drop, get_or}
use borrow.Author.Tests.{eq-eqb, ne_eqb}
use Rattle.text_rules.specs.Bytes.{same}
use Rattle.text_rules.specs.BytesLaws.{whether}

-- a text against path, tab and name
pub key-short : (s p n : List ℕ) → length s ≤ length p → same s (p ++ 9 ∷ n) ≡ false
key-short [] [] n h = refl
key-short [] (y ∷ p) n h = refl
key-short (x ∷ s) [] n h = absurd (omega arith)
key-short (x ∷ s) (y ∷ p) n h =
    elim (whether (eqb x y)) [
      | inl e ↦ rw e (key-short s p n (omega arith))
      | inr e ↦ rw e
    ]

key-parts : (s p n : List ℕ) → length p < length s
    → same s (p ++ 9 ∷ n) ≡ (same (take (length p) s) p && (eqb (get_or s (length p) 0) 9 && same (drop (suc (length p)) s) n))
key-parts [] p n h = absurd (omega arith)
key-parts (x ∷ s) [] n h = refl
key-parts (x ∷ s) (y ∷ p) n h =
    elim (whether (eqb x y)) [
      | inl e ↦ rw e (key-parts s p n (omega arith))
      | inr e ↦ rw e
    ]

and-false : (a : Bool) → (a && false) ≡ false
and-false true = refl
and-false false = refl

and-true : (a : Bool) → (a && true) ≡ a
and-true true = refl
and-true false = refl

module _ (s p n : List ℕ) (h : length p < length s) where
  pub key-tab : (get_or s (length p) 0 ≡ 9 → ⊥) → same s (p ++ 9 ∷ n) ≡ false
  key-tab e = key-parts s p n h ∙ rw (ne_eqb (get_or s (length p) 0) 9 e) (and-false (same (take (length p) s) p))

  pub key-other : same (drop (length p + 1) s) n ≡ false → same s (p ++ 9 ∷ n) ≡ false
  key-other e =
      let f = rw (add-one (length p)) at e in
      key-parts s p n h ∙ rw f (ap (λ b. same (take (length p) s) p && b) (and-false (eqb (get_or s (length p) 0) 9)) ∙ and-false (same (take (length p) s) p))

  pub key-path : get_or s (length p) 0 ≡ 9 → same (drop (length p + 1) s) n ≡ true → same s (p ++ 9 ∷ n) ≡ same (take (length p) s) p
  key-path e d =
      let f = rw (add-one (length p)) at d in
      key-parts s p n h ∙ rw (eq-eqb (get_or s (length p) 0) 9 e, f) (and-true (same (take (length p) s) p))
