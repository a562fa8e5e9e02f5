-- How long a mean is as it is printed: a double that is finite is below 2 to the 1,024, whatever was divided.
use Prim.Native.Nat.{ℕ, zero, suc, ◌*◌, ◌/◌, ◌%◌, ◌^◌, ◌≤◌, ◌<◌, max, compare}
use Rattle.std.specs.Prelude.{◌&&◌, T, eqb, leb, ltb, pos, length, Float}
use Rattle.std.proofs.Common.{div-lt_iff_lt-mul, lt_of_le_of_lt, mul-pos, zero-mul, arith, ltb→lt, lit<, length-append, pow_pos}
use Rattle.std.proofs.Math.Nat.{mul_assoc}
use Rattle.std.specs.Float.{nan, inf, fin, binary64}
use Rattle.std.specs.Float.Ieee.{down, fits, of_int, up}
use Rattle.std.specs.Float.Ieee.Fits.{and_r, div-fits, down_pos, nearest-le}
use Rattle.std.specs.Float.Ieee.Positive.{num, den, den_pos}
use Rattle.text_rules.proofs.DecimalLaws.{decimal-digits}
use Rattle.gate_rules.specs.Mean.{mean, mean_tenths, mean_text, tenths_of}

-- a double's exact value is below 2 to the 1,024
value_most : (x : Float) → T (fits binary64 x) → num x < 2 ^ 1024 * den x
unfolding fits
value_most nan h = lit< tt
value_most (inf s) h = lit< tt
value_most (fin s zero e) h = rw zero-mul (mul-pos (pow_pos 1024) (down_pos e))
value_most (fin s (suc m) e) h = ltb→lt (suc m * up e) (2 ^ 1024 * down e) (and_r (eqb (suc m % 2) 1 && ltb (suc m) (2 ^ 53) && leb (down e) (2 ^ 1074)) _ h)

-- below some number, and so ten times it, to the nearest whole number, at most ten times that
module _ (top : ℕ) where
  tenths_most : (x : Float) → num x < top * den x → tenths_of x ≤ 10 * top
  unfolding tenths_of
  tenths_most x h =
      let more : 10 * num x < 10 * top * den x = omega (arith, mul_assoc 10 top (den x)) in
      let less : 10 * num x / den x < 10 * top = (div-lt_iff_lt-mul (den_pos x)).1 more in
      omega (arith, nearest-le (10 * num x / den x) (compare (10 * num x % den x * 2) (den x)))

  whole-most : (tenths : ℕ) → tenths ≤ 10 * top → tenths / 10 ≤ top
  whole-most tenths h = omega arith

mean_tenths_most : (sum count : ℕ) → mean_tenths sum count ≤ 10 * 2 ^ 1024
unfolding mean_tenths mean
mean_tenths_most sum count = tenths_most (2 ^ 1024) (mean sum count) (value_most (mean sum count) (div-fits binary64 (of_int binary64 (pos sum)) (of_int binary64 (pos count))))

pub mean-length : (sum count : ℕ) → length (mean_text sum count) ≤ 311
unfolding mean_text
mean-length sum count =
    let tenths = mean_tenths sum (max 1 count) in
    let whole = decimal-digits 308 (tenths / 10) (lt_of_le_of_lt (whole-most (2 ^ 1024) tenths (mean_tenths_most sum (max 1 count))) (lit< tt)) in
    simp length-append (omega (arith, whole, decimal-digits 0 (tenths % 10) (omega arith)))
