-- The class of a byte tells what it is: no byte is of two classes.
use Rattle.std.specs.Prelude.{ℕ, ◌≤◌, ◌≡◌, true, ◌&&◌, ◌||◌, eqb, leb}
use Rattle.std.proofs.Common.{inl, inr, arith, eqb-true, leb-true}
use Rattle.text_rules.specs.BytesLaws.{and_left, and_right, or_cases, whether}
use Rattle.text_rules.specs.Classes.{class_of, is_digit, is_letter, is_space}

-- a space is at most 32, a digit 48 to 57, a letter or `_` at least 65
space-low : (b : ℕ) → is_space b ≡ true → b ≤ 32
unfolding is_space
space-low b e =
    elim (or_cases (eqb b 32 || eqb b 9 || eqb b 10 || eqb b 12) _ e) [
      | inr t ↦ omega (arith, eqb-true b 13 t)
      | inl t ↦
          elim (or_cases (eqb b 32 || eqb b 9 || eqb b 10) _ t) [
            | inr u ↦ omega (arith, eqb-true b 12 u)
            | inl u ↦
                elim (or_cases (eqb b 32 || eqb b 9) _ u) [
                  | inr v ↦ omega (arith, eqb-true b 10 v)
                  | inl v ↦ elim (or_cases (eqb b 32) _ v) [ inl w ↦ omega (arith, eqb-true b 32 w) | inr w ↦ omega (arith, eqb-true b 9 w) ]
                ]
          ]
    ]

pub digit_range_lem : (b : ℕ) → is_digit b ≡ true → (48 ≤ b) × (b ≤ 57)
unfolding is_digit
digit_range_lem b e = (leb-true 48 b (and_left _ _ e), leb-true b 57 (and_right (leb 48 b) _ e))

pub letter_range : (b : ℕ) → is_letter b ≡ true → (65 ≤ b) × (b ≤ 122)
unfolding is_letter
letter_range b e =
    elim (or_cases ((leb 65 b && leb b 90) || (leb 97 b && leb b 122)) (eqb b 95) e) [
      | inl t ↦
          elim (or_cases (leb 65 b && leb b 90) _ t) [
            | inl u ↦ omega (arith, leb-true 65 b (and_left _ _ u), leb-true b 90 (and_right (leb 65 b) _ u))
            | inr u ↦ omega (arith, leb-true 97 b (and_left _ _ u), leb-true b 122 (and_right (leb 97 b) _ u))
          ]
      | inr t ↦ omega (arith, eqb-true b 95 t)
    ]

pub class_letter : (b : ℕ) → eqb (class_of b) 3 ≡ is_letter b
unfolding class_of
class_letter b =
    elim (whether (is_letter b)) [
      | inl l ↦ rw (l, class_of)
      | inr l ↦
          elim (whether (is_digit b)) [
            | inl d ↦ rw (l, d, class_of)
            | inr d ↦ elim (whether (is_space b)) [ inl s ↦ rw (l, d, s, class_of) | inr s ↦ rw (l, d, s, class_of) ]
          ]
    ]

pub class_space : (b : ℕ) → eqb (class_of b) 1 ≡ is_space b
unfolding class_of
class_space b =
    elim (whether (is_space b)) [
      | inl s ↦
          elim (whether (is_letter b)) [
            | inl l ↦ absurd (omega (arith, space-low b s, letter_range b l))
            | inr l ↦
                elim (whether (is_digit b)) [
                  | inl d ↦ absurd (omega (arith, space-low b s, digit_range_lem b d))
                  | inr d ↦ rw (l, d, s, class_of)
                ]
          ]
      | inr s ↦
          elim (whether (is_letter b)) [
            | inl l ↦ rw (l, s, class_of)
            | inr l ↦ elim (whether (is_digit b)) [ inl d ↦ rw (l, d, s, class_of) | inr d ↦ rw (l, d, s, class_of) ]
          ]
    ]
