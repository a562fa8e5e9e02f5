-- A number as a loop reads it: the digits behind stand for n, those ahead go on from it.
use Prim.Native.Nat.{ℕ, ◌+◌, ◌*◌, ◌-◌, ◌≤◌, ◌<◌}
use mathlib.Core.Path.{◌≡◌, refl, ap, ◌∙◌}
use mathlib.Core.Bool.{Bool, true, false, ◌&&◌}
use mathlib.Core.List.{List, [], ◌∷◌}
use mathlib.Core.Option.{Option, none, some}
use native.Mathlib.Omega.{arith}
use lib.Dec.{leb}
use lib.ListN.{length, drop, get_or, drop_of_length-le}
use borrow.Author.Tests.{eq-eqb, le-leb, lt-leb, ne_eqb}
use mathlib.Core.Logic.{◌⊎◌, inl, inr}
use Rattle.text_rules.specs.Bytes.{if◌then◌otherwise◌}
use Rattle.text_rules.specs.Classes.{is_digit}
use Rattle.text_rules.specs.Decimal.{all_digits, is_numeral, numeral, parse_number, value_from, without_plus}
use Rattle.text_rules.proofs.ScanLaws.{split}
use Rattle.gate_rules.proofs.LoopForms.{value_grows}

-- the number that the digits of s make, behind those that made n
abbrev pub numeral_from : (limit n : ℕ) → List ℕ → Option ℕ
numeral_from limit n s = if all_digits s && leb (value_from n s) limit then some (value_from n s) otherwise none

pub numeral-none : (limit : ℕ) (s : List ℕ) → length s ≡ 0 → numeral limit s ≡ none
unfolding numeral is_numeral
numeral-none limit [] h = refl
numeral-none limit (b ∷ s) h = absurd (omega arith)

pub numeral-start : (limit : ℕ) (s : List ℕ) → (length s ≡ 0 → ⊥) → numeral_from limit 0 s ≡ numeral limit s
unfolding numeral is_numeral
numeral-start limit [] h = absurd (h refl)
numeral-start limit (b ∷ s) h = refl

and-false : (a b : Bool) → b ≡ false → (a && b) ≡ false
and-false true b e = e
and-false false b e = refl

past : (limit n b : ℕ) (s : List ℕ) → limit < n * 10 + (b - 48) → numeral_from limit n (b ∷ s) ≡ none
unfolding value_from
past limit n b s h =
    let grown : limit < value_from n (b ∷ s) = omega (arith, value_grows (n * 10 + (b - 48)) s) in
    rw (and-false (all_digits (b ∷ s)) (leb (value_from n (b ∷ s)) limit) (lt-leb (value_from n (b ∷ s)) limit grown))

-- one digit more
module _ (limit n : ℕ) (s : List ℕ) (i : ℕ) (h : i < length s) where
  pub digit_none : is_digit (get_or s i 0) ≡ false → numeral_from limit n (drop i s) ≡ none
  unfolding all_digits
  digit_none e = rw (split s i h, e)

  pub digit_past : limit < n * 10 + (get_or s i 0 - 48) → numeral_from limit n (drop i s) ≡ none
  digit_past e = ap (numeral_from limit n) (split s i h) ∙ past limit n (get_or s i 0) (drop (i + 1) s) e

  pub digit_refused : (is_digit (get_or s i 0) ≡ false) ⊎ (limit < n * 10 + (get_or s i 0 - 48)) → numeral_from limit n (drop i s) ≡ none
  digit_refused (inl e) = digit_none e
  digit_refused (inr e) = digit_past e

  pub digit_next : is_digit (get_or s i 0) ≡ true → numeral_from limit n (drop i s) ≡ numeral_from limit (n * 10 + (get_or s i 0 - 48)) (drop (i + 1) s)
  unfolding all_digits value_from
  digit_next e = rw (split s i h, e)

pub digits-end : (limit n : ℕ) (s : List ℕ) (i : ℕ) → length s ≤ i → n ≤ limit → numeral_from limit n (drop i s) ≡ some n
unfolding all_digits value_from
digits-end limit n s i h k = rw (drop_of_length-le s h, le-leb n limit k)

pub plus-first : (limit : ℕ) (s : List ℕ) → get_or s 0 0 ≡ 43 → parse_number limit s ≡ numeral limit (drop 1 s)
unfolding parse_number without_plus
plus-first limit [] e = absurd (omega arith)
plus-first limit (b ∷ s) e = rw (eq-eqb b 43 e)

pub plus_none : (limit : ℕ) (s : List ℕ) → (get_or s 0 0 ≡ 43 → ⊥) → parse_number limit s ≡ numeral limit s
unfolding parse_number without_plus
plus_none limit [] e = refl
plus_none limit (b ∷ s) e = rw (ne_eqb b 43 e)
