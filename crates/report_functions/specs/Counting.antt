-- What is counted over the functions, one after another.
use Rattle.std.specs.Prelude.{ℕ, ◌+◌, ◌*◌, ◌≤◌, ◌<◌, ◌≡◌, Bool}
use Rattle.std.proofs.Math.Path.{refl, ap}
use Rattle.std.proofs.Common.{◌∙◌, add-one, drop-cons}
use Rattle.std.proofs.Math.Bool.{true, false}
use mathlib.Core.List.{List, [], ◌∷◌}
use native.Mathlib.Omega.{arith}
use Rattle.std.proofs.Math.ListN.{length, drop, get_or, drop_of_length-le, length-append}
use Rattle.text_rules.specs.Bytes.{if◌then◌otherwise◌, kept, total}
use Rattle.text_rules.specs.BytesLaws.{total-same}
use Rattle.text_rules.specs.Order.{sort}
use Rattle.text_rules.proofs.OrderLaws.{sort-total}
use Rattle.gate_rules.specs.Functions.{Fun, Limits, over}
use Rattle.gate_rules.specs.Report.{report_row, report_rows, reported, worse}
use Rattle.gate_rules.specs.Update.{over_limit}
use Rattle.functions.specs.Shown.{no_fun}
use Rattle.report_functions.specs.declared.Counts.{Counts}

-- the bytes of a row
abbrev pub row_bytes : Fun → ℕ
row_bytes f = length (report_row f)

module _ (L : Limits) where
  -- the counts c, and r with one function more
  pub record Told (f : Fun) (c r : Counts) : Type 0 where
    pub over-is : r.over ≡ c.over + (if over L f then 1 otherwise 0)
    pub bytes_is : r.bytes ≡ c.bytes + (if over L f then row_bytes f otherwise 0)
    pub branches_is : r.branches ≡ c.branches + f.cyclomatic

  module _ (f : Fun) (c r : Counts) where
    pub told_over : over L f ≡ true → r.over ≡ c.over + 1 → r.bytes ≡ c.bytes + row_bytes f → r.branches ≡ c.branches + f.cyclomatic → Told f c r
    told_over e a b d = record { over-is = rw e a; bytes_is = rw e b; branches_is = d }

    pub told_under : over L f ≡ false → r.over ≡ c.over → r.bytes ≡ c.bytes → r.branches ≡ c.branches + f.cyclomatic → Told f c r
    told_under e a b d = record { over-is = rw e (omega arith); bytes_is = rw e (omega arith); branches_is = d }

  module _ (fs : List Fun) where
    -- all of them
    pub record Counted (r : Counts) : Type 0 where
      pub over-is : r.over ≡ length (over_limit L fs)
      pub bytes_is : r.bytes ≡ length (report_rows (reported L fs))
      pub branches_is : r.branches ≡ total (λ f. f.cyclomatic) fs

    -- those before k, with those from k on, are all
    pub record Counting (k : ℕ) (r : Counts) : Type 0 where
      pub few : r.over ≤ k
      pub short : r.bytes ≤ k * 4294967400
      pub over-is : r.over + length (kept (over L) (drop k fs)) ≡ length (kept (over L) fs)
      pub bytes_is : r.bytes + total row_bytes (kept (over L) (drop k fs)) ≡ total row_bytes (kept (over L) fs)
      pub branches_is : r.branches + total (λ f. f.cyclomatic) (drop k fs) ≡ total (λ f. f.cyclomatic) fs

    abbrev pub no_counts : Counts
    no_counts = record { over = 0; bytes = 0; branches = 0 }

    pub counting_none : Counting 0 no_counts
    counting_none = record { few = omega arith; short = omega arith; over-is = omega arith; bytes_is = omega arith; branches_is = omega arith }

    module _ (k : ℕ) (h : k < length fs) where
      split : drop k fs ≡ get_or fs k no_fun ∷ drop (k + 1) fs
      split = rw (add-one k) (drop-cons fs k no_fun h)

      -- what is counted of the functions from k on
      over-split : length (kept (over L) (drop k fs)) ≡ (if over L (get_or fs k no_fun) then 1 otherwise 0) + length (kept (over L) (drop (k + 1) fs))
      unfolding kept
      over-split = ap (λ gs. length (kept (over L) gs)) split ∙ one (over L (get_or fs k no_fun))
        where
          one : (b : Bool) → length (if b then get_or fs k no_fun ∷ kept (over L) (drop (k + 1) fs) otherwise kept (over L) (drop (k + 1) fs)) ≡ (if b then 1 otherwise 0) + length (kept (over L) (drop (k + 1) fs))
          one true = omega arith
          one false = omega arith

      bytes_split : total row_bytes (kept (over L) (drop k fs)) ≡ (if over L (get_or fs k no_fun) then row_bytes (get_or fs k no_fun) otherwise 0) + total row_bytes (kept (over L) (drop (k + 1) fs))
      unfolding kept
      bytes_split = ap (λ gs. total row_bytes (kept (over L) gs)) split ∙ one (over L (get_or fs k no_fun))
        where
          one : (b : Bool) → total row_bytes (if b then get_or fs k no_fun ∷ kept (over L) (drop (k + 1) fs) otherwise kept (over L) (drop (k + 1) fs)) ≡ (if b then row_bytes (get_or fs k no_fun) otherwise 0) + total row_bytes (kept (over L) (drop (k + 1) fs))
          one true = omega arith
          one false = omega arith

      branches_split : total (λ f. f.cyclomatic) (drop k fs) ≡ (get_or fs k no_fun).cyclomatic + total (λ f. f.cyclomatic) (drop (k + 1) fs)
      branches_split = ap (total (λ f. f.cyclomatic)) split

      module _ (c : Counts) (n : Counting k c) where
        -- the sum with one more is within the whole
        pub branches_room : c.branches + (get_or fs k no_fun).cyclomatic ≤ total (λ f. f.cyclomatic) fs
        branches_room = omega (arith, n.branches_is, branches_split)

        pub counting_next : (r : Counts) → Told (get_or fs k no_fun) c r → r.bytes ≤ c.bytes + 4294967400 → Counting (k + 1) r
        counting_next r t b =
            record {
              few = omega (arith, n.few, t.over-is, one-most (over L (get_or fs k no_fun)));
              short = omega (arith, n.short, b);
              over-is = omega (arith, n.over-is, t.over-is, over-split);
              bytes_is = omega (arith, n.bytes_is, t.bytes_is, bytes_split);
              branches_is = omega (arith, n.branches_is, t.branches_is, branches_split);
            }
          where
            one-most : (b : Bool) → (if b then 1 otherwise 0) ≤ 1
            one-most true = omega arith
            one-most false = omega arith

    rows_bytes : (gs : List Fun) → length (report_rows gs) ≡ total row_bytes gs
    unfolding report_rows
    rows_bytes [] = refl
    rows_bytes (g ∷ gs) = length-append (report_row g) (report_rows gs) ∙ (omega (arith, rows_bytes gs))

    pub counting_all : (k : ℕ) (r : Counts) → Counting k r → length fs ≤ k → Counted r
    unfolding over_limit reported
    counting_all k r n h =
        let none : drop k fs ≡ [] = drop_of_length-le fs h in
        record {
          over-is = omega (arith, n.over-is, ap (λ gs. length (kept (over L) gs)) none);
          bytes_is = omega (
            arith,
            n.bytes_is,
            ap (λ gs. total row_bytes (kept (over L) gs)) none,
            rows_bytes (sort worse (kept (over L) fs)),
            sort-total worse row_bytes (kept (over L) fs),
          );
          branches_is = omega (arith, n.branches_is, ap (total (λ f. f.cyclomatic)) none);
        }

    -- as many rows as functions over the limits
    pub rows-count : length (reported L fs) ≡ length (over_limit L fs)
    unfolding reported over_limit
    rows-count =
        omega (
          arith,
          total-same 1 (kept (over L) fs),
          total-same 1 (sort worse (kept (over L) fs)),
          sort-total worse (λ f. 1) (kept (over L) fs),
        )
