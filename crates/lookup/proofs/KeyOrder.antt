-- A key compared in byte order with path, tab and name, without a copy of them.
use Prim.Native.Nat.{ℕ, suc, ◌+◌, ◌≤◌, ◌<◌}
use mathlib.Core.Path.{◌≡◌, refl, ap, sym, ◌∙◌}
use mathlib.Core.Logic.{inl, inr}
use mathlib.Core.Bool.{true, false, not, or-false, ◌&&◌, ◌||◌}
use mathlib.Core.List.{List, [], ◌∷◌, ◌++◌}
use native.Mathlib.Omega.{arith}
use native.Mathlib.Numerals.{add-one}
use lib.Dec.{eqb, ltb}
use lib.ListN.{length, take, drop, get_or}
use borrow.Author.Tests.{eq-eqb, le-ltb, ltb-false, ltb-true, ne_eqb}
use Rattle.text_rules.specs.ByteOrder.{before_itself, before_orders, before-total}
use Rattle.text_rules.specs.Bytes.{before, same}
use Rattle.text_rules.specs.BytesLaws.{same_refl, same_true, true_false, whether}

-- a text that is no longer than the path
pub before-short : (s p n : List ℕ) → length s ≤ length p → before s (p ++ 9 ∷ n) ≡ not (before p s)
before-short [] [] n h = refl
before-short [] (y ∷ p) n h = refl
before-short (x ∷ s) [] n h = absurd (omega arith)
before-short (x ∷ s) (y ∷ p) n h =
    elim (whether (ltb x y)) [
      | inl t ↦
          let a = ltb-true x y t in
          rw (t, le-ltb y x (omega arith), ne_eqb y x (λ e. omega arith))
      | inr t ↦ elim (whether (ltb y x)) [
        | inl u ↦
            let a = ltb-true y x u in
            rw (t, u, ne_eqb x y (λ e. omega arith))
        | inr u ↦
            let a = ltb-false x y t in
            let b = ltb-false y x u in
            rw (t, u, eq-eqb x y (omega arith), eq-eqb y x (omega arith)) (before-short s p n (omega arith))
      ]
    ]

-- a longer one, part by part
before-parts : (s p n : List ℕ) → length p < length s
    → before s (p ++ 9 ∷ n)
    ≡ (before (take (length p) s) p || (same (take (length p) s) p && (ltb (get_or s (length p) 0) 9 || (eqb (get_or s (length p) 0) 9 && before (drop (suc (length p)) s) n))))
before-parts [] p n h = absurd (omega arith)
before-parts (x ∷ s) [] n h = refl
before-parts (x ∷ s) (y ∷ p) n h =
    elim (whether (ltb x y)) [
      | inl t ↦ rw t
      | inr t ↦ elim (whether (eqb x y)) [
        | inl e ↦ rw (t, e) (before-parts s p n (omega arith))
        | inr e ↦ rw (t, e)
      ]
    ]

-- the first part that differs decides
module _ (s p n : List ℕ) (h : length p < length s) where
  pub front-differs : same (take (length p) s) p ≡ false → before s (p ++ 9 ∷ n) ≡ before (take (length p) s) p
  front-differs f = before-parts s p n h ∙ rw f (or-false (before (take (length p) s) p))

  module _ (f : same (take (length p) s) p ≡ true) where
    front-same : before (take (length p) s) p ≡ false
    front-same = ap (λ t. before t p) (same_true (take (length p) s) p f) ∙ before_itself p

    pub tab-differs : (get_or s (length p) 0 ≡ 9 → ⊥) → before s (p ++ 9 ∷ n) ≡ ltb (get_or s (length p) 0) 9
    tab-differs d = before-parts s p n h ∙ rw (front-same, f, ne_eqb (get_or s (length p) 0) 9 d) (or-false (ltb (get_or s (length p) 0) 9))

    pub name-before : get_or s (length p) 0 ≡ 9 → before s (p ++ 9 ∷ n) ≡ before (drop (length p + 1) s) n
    name-before k = before-parts s p n h ∙ rw (front-same, f, k, add-one (length p))

-- a text that stands before another is not the same
pub before-other : (s t : List ℕ) → before s t ≡ true → same s t ≡ false
before-other s t h =
    elim (whether (same s t)) [
      | inl e ↦ absurd (true_false (before t t) (ap (λ r. before r t) (sym (same_true s t e)) ∙ h) (before_itself t))
      | inr e ↦ e
    ]

-- what is neither the same nor before stands behind
pub same-behind : (s t : List ℕ) → same s t ≡ true → before t s ≡ false
same-behind s t e = ap (λ r. before t r) (same_true s t e) ∙ before_itself t

pub other-behind : (s t : List ℕ) → same s t ≡ false → not (before s t) ≡ before t s
other-behind s t d =
    elim (whether (before s t)) [
      | inl e ↦ elim (whether (before t s)) [ inl f ↦ absurd (before_orders.asym s t e f) | inr f ↦ rw (e, f) ]
      | inr e ↦ elim (whether (before t s)) [
        | inl f ↦ rw (e, f)
        | inr f ↦ absurd (true_false (same s t) (ap (same s) (sym (before-total s t e f)) ∙ same_refl s) d)
      ]
    ]
