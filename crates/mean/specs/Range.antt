-- The mean is one rounding of total / count, and its bits are in the range that the code takes apart.
use Rattle.std.specs.Prelude.{ℕ, ◌*◌, ◌/◌, ◌^◌, ◌≤◌, ◌<◌, ◌≡◌, true, not, ℤ, Float}
use Rattle.std.proofs.Common.{◌∙◌, ⊎_elim, mul-pos, mul-one, mul-le-mul_right, mul-lt-mul_of_pos_right, div-lt_iff_lt-mul, eq-zero-or-pos, ne_eqb}
use Rattle.std.proofs.Math.Path.{sym, ap, subst}
use Rattle.std.proofs.Math.Bool.{false}
use Rattle.std.proofs.Math.Nat.{zero-mul}
use native.Mathlib.Omega.{arith}
use Rattle.std.proofs.Math.Dec.{T, lit<}
use Rattle.std.specs.Float.{nan, inf, fin, Format}
use Rattle.std.specs.Float.Ieee.{binary64, up, down, size, div, round, is_nan, to_bits, of_bits, le}
use Rattle.std.specs.Float.Ieee.Back.{round_whole}
use Rattle.std.specs.Float.Ieee.Bits.{of_bits-to_bits}
use Rattle.std.specs.Float.Ieee.Digits.{size-le}
use Rattle.std.specs.Float.Ieee.Exact.{HasValue}
use Rattle.std.specs.Float.Ieee.Fits.{down_pos, kept-lt, round-fits}
use Rattle.std.specs.Float.Ieee.Order.{round_mono}
use Rattle.std.specs.Float.Ieee.Positive.{num, den, positive, between, le→cross}
use Rattle.std.specs.Float.Ieee.Scale.{round_same}
use Rattle.gate_rules.specs.Mean.{mean}

-- ---- a quotient of two values that are whole numbers is one rounding
module _ (f : Format) (a b : ℕ) (h : 0 < b) where
  div-fin : (m n : ℕ) (e d : ℤ) → m * up e * 1 ≡ a * down e → n * up d * 1 ≡ b * down d → div f (fin false m e) (fin false n d) ≡ round f false a b
  unfolding div
  div-fin m n e d p q =
      let p' : m * up e ≡ a * down e = sym (mul-one (m * up e)) ∙ p in
      let q' : n * up d ≡ b * down d = sym (mul-one (n * up d)) ∙ q in
      let some : 0 < n * up d = subst (λ (z : ℕ). 0 < z) (sym q') (mul-pos h (down_pos d)) in
      rw (ne_eqb n 0 (λ (z : n ≡ 0). no_zero z some))
      (round_same f false (m * up e * down d) (n * up d * down e) a b (mul-pos some (down_pos e)) h
      (rw (p', q') (omega arith)))
    where
      no_zero : n ≡ 0 → 0 < n * up d → ⊥
      no_zero z s = let w : n * up d ≡ 0 = ap (λ (k : ℕ). k * up d) z ∙ zero-mul (up d) in omega arith

  div-at : (x y : Float) → HasValue x false a 1 → HasValue y false b 1 → div f x y ≡ round f false a b
  div-at nan y p q = absurd p
  div-at (inf s) y p q = absurd p
  div-at (fin s m e) nan p q = absurd q
  div-at (fin s m e) (inf t) p q = absurd q
  div-at (fin s m e) (fin t n d) p q = rw (p.0, q.0) (div-fin m n e d p.1 q.1)

pub mean-is : (total count : ℕ) → total ≤ 2 ^ 53 → count ≤ 2 ^ 53 → 0 < count → mean total count ≡ round binary64 false total count
unfolding mean
mean-is total count a b h =
    div-at binary64 total count h (round binary64 false total 1) (round binary64 false count 1) (round_whole binary64 false total a) (round_whole binary64 false count b)

scale : (x d p q : ℕ) → x ≤ 16777216 * d → 16777216 * p < q → 0 < d → x * p < q * d
scale x d p q h k pos-d =
    let a : x * p ≤ 16777216 * d * p = mul-le-mul_right p h in
    let b : 16777216 * p * d < q * d = mul-lt-mul_of_pos_right k pos-d in
    omega arith

-- ---- the bits of a positive value up to 2 ^ 24
bits_of : (m : ℕ) (e : ℤ) → m * up e ≤ 16777216 * down e → to_bits binary64 (fin false m e) < 1076 * 2 ^ 52
unfolding to_bits
bits_of m e h =
    let n = m * up e * 2 ^ 1074 / down e in
    let less : m * up e * 2 ^ 1074 < 2 ^ 1127 * down e = scale (m * up e) (down e) (2 ^ 1074) (2 ^ 1127) h (lit< tt) (down_pos e) in
    let sized : size n ≤ 1127 = size-le n 1127 ((div-lt_iff_lt-mul (down_pos e)).1 less) in
    omega (arith, kept-lt 53 n)

abbrev Good : Float → Type 0
Good z = T (not (is_nan z)) × (to_bits binary64 z < 1076 * 2 ^ 52)

good-positive : (z : Float) → T (positive z) → num z ≤ 16777216 * den z → Good z
unfolding is_nan
good-positive nan p h = absurd p
good-positive (inf s) p h = absurd p
good-positive (fin true m e) p h = absurd p
good-positive (fin false m e) p h = (tt, bits_of m e h)

-- the largest mean, and a double below every mean above 0
most : Float
most = round binary64 false 16777216 1

least : Float
least = round binary64 false 1 (2 ^ 32)

module _ (total count : ℕ) (h : total ≤ 16777216) (k : 0 < count) (l : count < 2 ^ 32) where
  abbrev z : Float
  z = round binary64 false total count

  above_zero : 0 < total → Good z
  unfolding most least round le
  above_zero p =
      let hi : T (le z most) = round_mono binary64 total count 16777216 1 k (lit< tt) (omega arith) in
      let lo : T (le least z) = round_mono binary64 1 (2 ^ 32) total count (lit< tt) k (omega arith) in
      let pos-z : T (positive z) = between least z most tt tt lo hi in
      good-positive z pos-z (omega (arith, le→cross z most pos-z tt hi))

  at_zero : total ≡ 0 → Good z
  unfolding round is_nan to_bits
  at_zero e =
      let same : round binary64 false 0 1 ≡ z = round_same binary64 false 0 1 total count (lit< tt) k (omega arith) in
      subst Good same (tt, lit< tt)

  good : Good z
  good = ⊎_elim at_zero above_zero (eq-zero-or-pos total)

  pub mean-good : Good (mean total count)
  mean-good = subst Good (sym (mean-is total count (omega arith) (omega arith) k)) good

  pub mean-back : of_bits binary64 (to_bits binary64 (mean total count)) ≡ mean total count
  mean-back =
      subst (λ (x : Float). of_bits binary64 (to_bits binary64 x) ≡ x) (sym (mean-is total count (omega arith) (omega arith) k))
      (of_bits-to_bits binary64 z (round-fits binary64 false total count))
