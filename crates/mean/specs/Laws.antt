-- Laws of rounding to the nearest whole number, of a double's fields, and of the mean.
use Prim.Native.Nat.{ℕ, zero, suc, ◌+◌, ◌-◌, ◌*◌, ◌/◌, ◌%◌, ◌^◌, ◌≤◌, ◌<◌, compare, Ordering}
use Rattle.std.specs.Prelude.{◌≡◌, refl, false, not, T, eqb, Float}
use Rattle.std.proofs.Common.{sym, ap, ◌∙◌, subst, mul_assoc, mod-eq_of_lt, lt_of_lt_of_le, mul-lt-mul_of_pos_right, sub-add_cancel, arith, leb→le, eqb→eq, pow_pos, pow_mono, pow-add, ne_eqb}
use Rattle.std.proofs.Math.Nat.{div-eq_of_lt}
use Rattle.std.proofs.Math.Dec.{is_le, compare_is_eq, nleb→lt, eqb_refl}
use Rattle.std.proofs.lemmas.Bool.{lt-leb}
use Rattle.std.specs.Float.{binary64}
use Rattle.std.specs.Float.Ieee.{nearest, odd, of_fields, of_bits}
use Rattle.std.specs.Float.Ieee.Exact.{HasValue, odd_sign}
use Rattle.std.specs.Float.Ieee.Nearest.{closest, closest_same}
use Rattle.std.specs.Float.Ieee.Positive.{num, den, den_pos, value→cross}
use Rattle.gate_rules.specs.Mean.{tenths_of}

-- ---- the three ways of `nearest`
module _ (q a b : ℕ) where
  eq_tests : a ≡ b → T (compare_is_eq (compare a b))
  eq_tests e = subst (λ (x : ℕ). T (eqb a x)) e (eqb_refl a)

  pub near_below : a < b → nearest q (compare a b) ≡ q
  near_below h = go (compare a b) (nleb→lt a b) (eqb→eq a b)
    where
      go : (o : Ordering) → (T (not (is_le o)) → b < a) → (T (compare_is_eq o) → a ≡ b) → nearest q o ≡ q
      go Ordering.lt k e = refl
      go Ordering.eq k e = let z = e tt in absurd (omega arith)
      go Ordering.gt k e = let z = k tt in absurd (omega arith)

  pub near_tie : a ≡ b → nearest q (compare a b) ≡ q + q % 2
  near_tie h = go (compare a b) (nleb→lt a b) eq_tests
    where
      go : (o : Ordering) → (T (not (is_le o)) → b < a) → (a ≡ b → T (compare_is_eq o)) → nearest q o ≡ q + q % 2
      go Ordering.lt k n = absurd (n h)
      go Ordering.eq k n = refl
      go Ordering.gt k n = absurd (n h)

  pub near_above : b < a → nearest q (compare a b) ≡ suc q
  near_above h = go (compare a b) (leb→le a b)
    where
      go : (o : Ordering) → (T (is_le o) → a ≤ b) → nearest q o ≡ suc q
      go Ordering.lt k = let z = k tt in absurd (omega arith)
      go Ordering.eq k = let z = k tt in absurd (omega arith)
      go Ordering.gt k = refl

-- less than a half is nothing
closest_small : (c d : ℕ) → c * 2 < d → closest c d ≡ 0
closest_small c d h =
    rw (div-eq_of_lt {n = c} {m = d} (omega arith), mod-eq_of_lt {n = c} {m = d} (omega arith)) (near_below 0 (c * 2) d h)

-- ---- the tenths of a value that is a / c
tenths_at : (x : Float) (a c : ℕ) → 0 < c → HasValue x false a c → tenths_of x ≡ closest (10 * a) c
unfolding tenths_of
tenths_at x a c h v =
    closest_same (10 * num x) (den x) (10 * a) c (den_pos x) h
    (mul_assoc 10 (num x) c ∙ ap (λ (z : ℕ). 10 * z) (value→cross x a c v) ∙ sym (mul_assoc 10 a (den x)))

tenths_odd : (d q k l : ℕ) → tenths_of (odd d false q k l) ≡ closest (10 * (q * 2 ^ k)) (2 ^ l)
tenths_odd d q k l = tenths_at (odd d false q k l) (q * 2 ^ k) (2 ^ l) (pow_pos l) (odd_sign d false q k l)

small : (q k l : ℕ) → q < 2 ^ 53 → 58 + k ≤ l → 10 * (q * 2 ^ k) * 2 < 2 ^ l
small q k l h room =
    let few : q * 20 < 2 ^ 58 = omega arith in
    let same : 10 * (q * 2 ^ k) * 2 ≡ q * 20 * 2 ^ k = omega arith in
    let less : q * 20 * 2 ^ k < 2 ^ (58 + k) = subst (λ (z : ℕ). q * 20 * 2 ^ k < z) (sym (pow-add 2 58 k)) (mul-lt-mul_of_pos_right few (pow_pos k)) in
    subst (λ (z : ℕ). z < 2 ^ l) (sym same) (lt_of_lt_of_le less (pow_mono room))

large : (q k l : ℕ) → k ≤ l → closest (10 * (q * 2 ^ k)) (2 ^ l) ≡ closest (q * 10) (2 ^ (l - k))
large q k l h =
    closest_same (10 * (q * 2 ^ k)) (2 ^ l) (q * 10) (2 ^ (l - k)) (pow_pos l) (pow_pos (l - k))
    (rw (← whole) (omega arith))
  where
    whole : 2 ^ (l - k) * 2 ^ k ≡ 2 ^ l
    whole = sym (pow-add 2 (l - k) k) ∙ ap (λ (z : ℕ). 2 ^ z) (sub-add_cancel h)

-- ---- a double's fields
fields : (b : ℕ) → b < 2 ^ 63 → of_bits binary64 b ≡ of_fields binary64 false (b / 2 ^ 52) (b % 2 ^ 52)
unfolding of_bits
fields b h = rw (lt-leb (2 ^ 63) b h, mod-eq_of_lt {n = b} {m = 2 ^ 63} h)

-- an exponent's field below 1018: the value is below a twentieth
field_small : (x t : ℕ) → x < 1018 → t < 2 ^ 52 → tenths_of (of_fields binary64 false x t) ≡ 0
unfolding of_fields
field_small zero t h f = tenths_odd 53 t 0 1074 ∙ closest_small (10 * (t * 2 ^ 0)) (2 ^ 1074) (small t 0 1074 (omega arith) (omega arith))
field_small (suc x) t h f =
    rw (ne_eqb (suc x) 2047 (omega arith))
    (tenths_odd 53 (2 ^ 52 + t) x 1074 ∙ closest_small (10 * ((2 ^ 52 + t) * 2 ^ x)) (2 ^ 1074) (small (2 ^ 52 + t) x 1074 (omega arith) (omega arith)))

field_large : (x t : ℕ) → 1018 ≤ x → x ≤ 1075 → tenths_of (of_fields binary64 false x t) ≡ closest ((2 ^ 52 + t) * 10) (2 ^ (1075 - x))
unfolding of_fields
field_large zero t h f = absurd (omega arith)
field_large (suc x) t h f =
    rw (ne_eqb (suc x) 2047 (omega arith))
    (tenths_odd 53 (2 ^ 52 + t) x 1074 ∙ large (2 ^ 52 + t) x 1074 (omega arith) ∙ ap (λ (z : ℕ). closest ((2 ^ 52 + t) * 10) (2 ^ z)) (omega arith))

pub bits_small : (b : ℕ) → b / 2 ^ 52 < 1018 → tenths_of (of_bits binary64 b) ≡ 0
bits_small b h = rw (fields b (omega arith)) (field_small (b / 2 ^ 52) (b % 2 ^ 52) h (omega arith))

pub bits_large : (b : ℕ) → b < 1076 * 2 ^ 52 → 1018 ≤ b / 2 ^ 52 → tenths_of (of_bits binary64 b) ≡ closest ((2 ^ 52 + b % 2 ^ 52) * 10) (2 ^ (1075 - b / 2 ^ 52))
bits_large b f h = rw (fields b (omega arith)) (field_large (b / 2 ^ 52) (b % 2 ^ 52) h (omega arith))
