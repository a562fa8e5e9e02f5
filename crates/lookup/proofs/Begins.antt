-- A line whose entry has a key begins with the key and goes on behind it: so a line is told to have another before it is read.
use Prim.Native.Nat.{ℕ, ◌+◌, ◌-◌, ◌≤◌, ◌<◌}
use mathlib.Core.Path.{◌≡◌, refl, ap, ap₂, sym, ◌∙◌}
use mathlib.Core.Logic.{◌⊎◌, inl, inr}
use mathlib.Core.Bool.{false}
use mathlib.Core.List.{List, ◌∷◌, ◌++◌}
use mathlib.Core.Option.{Option, none, some}
use native.Mathlib.Omega.{arith}
use lib.Dec.{eqb, ltb}
use lib.ListN.{length, take, drop, get_or, length-take}
use borrow.Author.Tests.{eqb-false, eqb-true, ltb-false, ltb-true}
use Rattle.text_rules.specs.Bytes.{same}
use Rattle.text_rules.specs.BytesLaws.{same_refl, same_true, true_false, whether}
use Rattle.text_rules.specs.Decimal.{parse_number}
use Rattle.text_rules.proofs.LineForms.{part-joined, piece-mark}
use Rattle.text_rules.specs.Search.{bytes_before, part}
use Rattle.gate_rules.specs.Baseline.{entry_of, entry_with}
use Rattle.gate_rules.specs.Functions.{key_of}
use Rattle.baseline.specs.Reads.{hit}
use Rattle.baseline.specs.Fields.{four-fields, no-entry, one_field, three-fields, two_fields}

-- the line begins with the key and goes on
abbrev Begins : List ℕ → List ℕ → Type 0
Begins k line = (length k < length line) × (take (length k) line ≡ k)

of_none : (k line : List ℕ) → entry_of line ≡ none → hit k (entry_of line) ≡ none
of_none k line e = ap (hit k) e

with_key_lem : (k path name : List ℕ) (x y : Option ℕ) → (hit k (entry_with path name x y) ≡ none) ⊎ (k ≡ key_of path name)
with_key_lem k path name none y = inl refl
with_key_lem k path name (some c) none = inl refl
with_key_lem k path name (some c) (some l) =
    elim (whether (same (key_of path name) k)) [
      | inl t ↦ inr (sym (same_true (key_of path name) k t))
      | inr t ↦ inl (rw t)
    ]

module _ (k line : List ℕ) where
  -- where the first four fields end
  abbrev a : ℕ
  a = 0 + bytes_before 9 (drop 0 line)

  abbrev b : ℕ
  b = a + 1 + bytes_before 9 (drop (a + 1) line)

  abbrev c : ℕ
  c = b + 1 + bytes_before 9 (drop (b + 1) line)

  abbrev d : ℕ
  d = c + 1 + bytes_before 9 (drop (c + 1) line)

  joined : (m n : ℕ) → m < n → n < length line → get_or line m 0 ≡ 9 → k ≡ key_of (part 0 m line) (part (m + 1) n line) → Begins k line
  joined m n h l t e =
      let z : m - 0 ≡ m = omega arith in
      let q : k ≡ take n line = e ∙ ap₂ (λ (i x : ℕ). take i line ++ x ∷ part (m + 1) n line) z (sym t) ∙ part-joined line m n h (omega arith) in
      let size : length k ≡ n = ap length q ∙ simp length-take (omega arith) in
      (omega arith, ap (λ i. take i line) size ∙ sym q)

  -- its entry has another key, or it begins with this one
  begins_or_not : (hit k (entry_of line) ≡ none) ⊎ Begins k line
  begins_or_not =
      elim (whether (eqb (get_or line 0 0) 35)) [
        | inl t ↦ inl (of_none k line (no-entry line (eqb-true (get_or line 0 0) 35 t)))
        | inr t ↦ from_first (eqb-false (get_or line 0 0) 35 t)
      ]
    where
      read : (h : get_or line 0 0 ≡ 35 → ⊥) (ka : a < length line) (kb : b < length line) (kc : c < length line) → (hit k (entry_of line) ≡ none) ⊎ Begins k line
      read h ka kb kc =
          elim (with_key_lem k (part 0 a line) (part (a + 1) b line) (parse_number 4294967295 (part (b + 1) c line)) (parse_number 18446744073709551615 (part (c + 1) d line))) [
            | inl e ↦ inl (ap (hit k) (four-fields line h a refl ka b refl kb c refl kc d refl) ∙ e)
            | inr e ↦ inr (joined a b (omega arith) kb (piece-mark 9 line 0 a refl ka) e)
          ]

      from_first : (get_or line 0 0 ≡ 35 → ⊥) → (hit k (entry_of line) ≡ none) ⊎ Begins k line
      from_first h =
          elim (whether (ltb a (length line))) [
            | inr t ↦ inl (of_none k line (one_field line h a refl (ltb-false a (length line) t)))
            | inl t ↦ elim (whether (ltb b (length line))) [
              | inr u ↦ inl (of_none k line (two_fields line h a refl (ltb-true a (length line) t) b refl (ltb-false b (length line) u)))
              | inl u ↦ elim (whether (ltb c (length line))) [
                | inr v ↦ inl (of_none k line (three-fields line h a refl (ltb-true a (length line) t) b refl (ltb-true b (length line) u) c refl (ltb-false c (length line) v)))
                | inl v ↦ read h (ltb-true a (length line) t) (ltb-true b (length line) u) (ltb-true c (length line) v)
              ]
            ]
          ]

  not_begun : (Begins k line → ⊥) → hit k (entry_of line) ≡ none
  not_begun n =
      elim begins_or_not [
        | inl e ↦ e
        | inr f ↦ absurd (n f)
      ]

  pub short : length line ≤ length k → hit k (entry_of line) ≡ none
  short h = not_begun (λ f. omega (arith, f.0))

  pub other-front : same (take (length k) line) k ≡ false → hit k (entry_of line) ≡ none
  other-front e = not_begun (λ f. true_false (same k k) (same_refl k) (ap (λ s. same s k) (sym f.1) ∙ e))
