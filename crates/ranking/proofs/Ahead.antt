-- One function goes before another. Byte order decides between texts that differ, so that each comparison is made one way only.
use Prim.Native.Nat.{ℕ, ◌<◌}
use mathlib.Core.Path.{◌≡◌, ap, subst, sym, ◌∙◌}
use mathlib.Core.Logic.{◌≢◌, inl, inr}
use mathlib.Core.Bool.{Bool, true, false}
use mathlib.Core.List.{List}
use native.Mathlib.Omega.{arith}
use lib.Dec.{ltb}
use borrow.Author.Tests.{eq-eqb, le-ltb, lt-ltb, ltb-false, ltb-true}
use Rattle.text_rules.specs.ByteOrder.{Orders, before_orders, before-total}
use Rattle.text_rules.specs.Bytes.{before, same}
use Rattle.text_rules.specs.BytesLaws.{same_refl, same_true, true_false, whether}
use Rattle.gate_rules.specs.Functions.{Fun}
use Rattle.gate_rules.specs.Report.{worse}
use Rattle.gate_rules.proofs.RowOrders.{row_orders, worse_orders}
use Rattle.gate_rules.specs.Update.{row_before}
use Rattle.ranking.specs.Ranks.{decided}

-- of two texts that differ one is before the other, and no text is before itself
apart : (s t : List ℕ) → same s t ≡ false → before s t ≡ false → before t s ≡ true
apart s t n h =
    elim (whether (before t s)) [
      | inl e ↦ e
      | inr e ↦ absurd (true_false (same s t) (subst (λ u. same s u ≡ true) (before-total s t h e) (same_refl s)) n)
    ]

not_itself : (s t : List ℕ) → same s t ≡ true → before s t ≡ false
not_itself s t h =
    elim (whether (before s t)) [
      | inl e ↦ let c : before s s ≡ true = ap (before s) (same_true s t h) ∙ e in absurd (before_orders.asym s s c c)
      | inr e ↦ e
    ]

same_back : (s t : List ℕ) → same s t ≡ true → same t s ≡ true
same_back s t h = subst (λ u. same u s ≡ true) (same_true s t h) (same_refl s)

module _ (less : Fun → Fun → Bool) (orders : Orders less) (f g : Fun) (earlier : Bool) where
  by_less : less f g ≡ true → decided less f g earlier ≡ true
  by_less h = rw h

  by-more : less g f ≡ true → decided less f g earlier ≡ false
  by-more h =
      elim (whether (less f g)) [
        | inl e ↦ absurd (orders.asym f g e h)
        | inr e ↦ rw (e, h)
      ]

  by_place : less f g ≡ false → less g f ≡ false → decided less f g earlier ≡ earlier
  by_place h k = rw (h, k)

  module _ (s t : List ℕ) where
    by-text : same s t ≡ false → (before s t ≡ true → less f g ≡ true) → (before t s ≡ true → less g f ≡ true) → before s t ≡ decided less f g earlier
    by-text n h k =
        elim (whether (before s t)) [
          | inl e ↦ e ∙ sym (by_less (h e))
          | inr e ↦ e ∙ sym (by-more (k (apart s t n e)))
        ]

    by_tie : same s t ≡ true → less f g ≡ before s t → less g f ≡ before t s → earlier ≡ decided less f g earlier
    by_tie n h k = sym (by_place (h ∙ not_itself s t n) (k ∙ not_itself t s (same_back s t n)))

-- the ways that code goes through the order of update's rows
path-before : (f g : Fun) → before f.path g.path ≡ true → row_before f g ≡ true
unfolding row_before
path-before f g h = rw h

name-before : (f g : Fun) → same f.path g.path ≡ true → row_before f g ≡ before f.name g.name
unfolding row_before
name-before f g h = rw (not_itself f.path g.path h, h)

module _ (f g : Fun) (earlier : Bool) where
  pub keys-path : same f.path g.path ≡ false → before f.path g.path ≡ decided row_before f g earlier
  keys-path n = by-text row_before row_orders f g earlier f.path g.path n (path-before f g) (path-before g f)

  module _ (h : same f.path g.path ≡ true) where
    back : row_before g f ≡ before g.name f.name
    back = name-before g f (same_back f.path g.path h)

    pub keys-name : same f.name g.name ≡ false → before f.name g.name ≡ decided row_before f g earlier
    keys-name n = by-text row_before row_orders f g earlier f.name g.name n (λ b. name-before f g h ∙ b) (λ b. back ∙ b)

    pub keys_tied : same f.name g.name ≡ true → earlier ≡ decided row_before f g earlier
    keys_tied n = by_tie row_before row_orders f g earlier f.name g.name n (name-before f g h) back

-- and of the report's
worse-more : (f g : Fun) → g.cyclomatic < f.cyclomatic → worse f g ≡ true
unfolding worse
worse-more f g h = rw (lt-ltb g.cyclomatic f.cyclomatic h)

worse-same : (f g : Fun) → f.cyclomatic ≡ g.cyclomatic → worse f g ≡ before f.path g.path
unfolding worse
worse-same f g e = rw (le-ltb g.cyclomatic f.cyclomatic (omega arith), eq-eqb f.cyclomatic g.cyclomatic e)

module _ (f g : Fun) (earlier : Bool) where
  pub worst_branches : f.cyclomatic ≢ g.cyclomatic → ltb g.cyclomatic f.cyclomatic ≡ decided worse f g earlier
  worst_branches n =
      elim (whether (ltb g.cyclomatic f.cyclomatic)) [
        | inl e ↦ e ∙ sym (by_less worse worse_orders f g earlier (worse-more f g (ltb-true g.cyclomatic f.cyclomatic e)))
        | inr e ↦ e ∙ sym (by-more worse worse_orders f g earlier (worse-more g f (omega (arith, n, ltb-false g.cyclomatic f.cyclomatic e))))
      ]

  module _ (h : f.cyclomatic ≡ g.cyclomatic) where
    pub worst_path : same f.path g.path ≡ false → before f.path g.path ≡ decided worse f g earlier
    worst_path n = by-text worse worse_orders f g earlier f.path g.path n (λ b. worse-same f g h ∙ b) (λ b. worse-same g f (sym h) ∙ b)

    pub worst_tied : same f.path g.path ≡ true → earlier ≡ decided worse f g earlier
    worst_tied n = by_tie worse worse_orders f g earlier f.path g.path n (worse-same f g h) (worse-same g f (sym h))
