-- How many rows there are, and their bytes: counted over the functions in scan order, since sorting changes neither.
use Prim.Native.Nat.{ℕ, suc, ◌+◌, ◌≤◌, ◌<◌}
use mathlib.Core.Path.{◌≡◌, refl, ap, sym, ◌∙◌}
use mathlib.Core.Bool.{true, false}
use mathlib.Core.List.{List, [], ◌∷◌}
use native.Mathlib.Numerals.{add-one}
use native.Mathlib.Omega.{arith}
use lib.ListN.{length, drop, get_or, drop_of_length-le, length-append}
use lib.Seq.{drop-cons}
use Rattle.text_rules.specs.Bytes.{kept, total}
use Rattle.text_rules.specs.BytesLaws.{total-same}
use Rattle.text_rules.specs.Order.{sort}
use Rattle.text_rules.proofs.OrderLaws.{sort-total}
use Rattle.gate_rules.specs.Functions.{Fun, Limits, over}
use Rattle.gate_rules.specs.Gate.{gate}
use Rattle.gate_rules.proofs.ListingSizes.{baseline-length, recorded-most}
use Rattle.gate_rules.specs.Scan.{functions_of}
use Rattle.gate_rules.specs.Update.{baseline_text, header, over_limit, recorded, row, row_before, rows}
use Rattle.functions.proofs.Accepted.{accepted}
use Rattle.functions.specs.Shown.{Stand, no_fun}
use Rattle.update_rows.specs.Rows.{lined, lined-length, lined_length}

module _ (L : Limits) (fs : List Fun) where
  -- the over-limit functions from a number on
  unfoldable pub left : ℕ → List Fun
  left k = kept (over L) (drop k fs)

  -- their rows, and the bytes of these
  unfoldable pub left_count : ℕ → ℕ
  left_count k = length (left k)

  unfoldable pub left_bytes : ℕ → ℕ
  left_bytes k = total lined_length (left k)

  module _ (k : ℕ) (h : k < length fs) where
    left_split : drop k fs ≡ get_or fs k no_fun ∷ drop (k + 1) fs
    left_split = rw (add-one k) (drop-cons fs k no_fun h)

    left_over : over L (get_or fs k no_fun) ≡ true → left k ≡ get_or fs k no_fun ∷ left (k + 1)
    unfolding left kept
    left_over e = ap (kept (over L)) left_split ∙ rw e

    left_under : over L (get_or fs k no_fun) ≡ false → left k ≡ left (k + 1)
    unfolding left kept
    left_under e = ap (kept (over L)) left_split ∙ rw e

    pub count-over : over L (get_or fs k no_fun) ≡ true → left_count k ≡ suc (left_count (k + 1))
    unfolding left_count
    count-over e = ap length (left_over e)

    pub bytes_over : over L (get_or fs k no_fun) ≡ true → left_bytes k ≡ lined_length (get_or fs k no_fun) + left_bytes (k + 1)
    unfolding left_bytes
    bytes_over e = ap (total lined_length) (left_over e)

    pub count_under : over L (get_or fs k no_fun) ≡ false → left_count k ≡ left_count (k + 1)
    unfolding left_count
    count_under e = ap length (left_under e)

    pub bytes_under : over L (get_or fs k no_fun) ≡ false → left_bytes k ≡ left_bytes (k + 1)
    unfolding left_bytes
    bytes_under e = ap (total lined_length) (left_under e)

  left-none : (k : ℕ) → length fs ≤ k → left k ≡ []
  unfolding left kept
  left-none k h = ap (kept (over L)) (drop_of_length-le fs h)

  pub none_left : (k : ℕ) → length fs ≤ k → (left_count k ≡ 0) × (left_bytes k ≡ 0)
  unfolding left_count left_bytes
  none_left k h = (ap length (left-none k h), ap (total lined_length) (left-none k h))

  -- from the first function on, they are those of update
  pub all-count : left_count 0 ≡ length (recorded L fs)
  unfolding left_count left recorded over_limit
  all-count =
      omega (
        arith,
        total-same 1 (kept (over L) fs),
        total-same 1 (sort row_before (kept (over L) fs)),
        sort-total row_before (λ f. 1) (kept (over L) fs),
      )

rows-length : (fs : List Fun) → length (rows fs) ≡ total lined_length fs
unfolding rows
rows-length [] = refl
rows-length (f ∷ fs) =
    let whole : length (rows (f ∷ fs)) ≡ length (row f) + suc (length (rows fs)) = length-append (row f) (10 ∷ rows fs) in
    let one : length (lined f) ≡ length (row f) + 1 = length-append (row f) (10 ∷ []) in
    omega (arith, whole, one, lined-length f, rows-length fs)

pub all_bytes_lem : (L : Limits) (fs : List Fun) → left_bytes L fs 0 ≡ length (rows (recorded L fs))
unfolding left_bytes left recorded over_limit
all_bytes_lem L fs = sym (rows-length (sort row_before (kept (over L) fs)) ∙ sort-total row_before lined_length (kept (over L) fs))

-- where the records stand the rows are few and short
pub rows_few : (L : Limits) (tree lent : List ℕ) → Stand tree lent → left_count L (functions_of gate tree) 0 ≤ 8192
rows_few L tree lent s = omega (arith, all-count L (functions_of gate tree), recorded-most L (functions_of gate tree), s.few)

pub rows_short : (L : Limits) (tree lent : List ℕ) → Stand tree lent → left_bytes L (functions_of gate tree) 0 ≤ 33554432
unfolding baseline_text
rows_short L tree lent s =
    omega (
      arith,
      all_bytes_lem L (functions_of gate tree),
      length-append header (rows (recorded L (functions_of gate tree))),
      baseline-length L tree (accepted tree lent s),
    )
