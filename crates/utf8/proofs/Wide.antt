-- A character that begins at a place `at` of a text `s`: each byte that it asks for is read, and a byte past the end reads 0, which is in no range.
use Prim.Native.Nat.{ℕ, zero, suc, ◌+◌, ◌-◌, ◌≤◌, ◌<◌}
use mathlib.Core.Path.{◌≡◌, ap, sym, ◌∙◌}
use mathlib.Core.Logic.{◌≢◌, inl, inr}
use mathlib.Core.Bool.{true, false, ◌&&◌}
use Rattle.std.specs.Prelude.{None, Some}
use mathlib.Core.List.{List, [], ◌∷◌}
use native.Mathlib.Nat.{add-zero}
use native.Mathlib.Omega.{arith}
use lib.Dec.{lit≤, ltb}
use lib.ListN.{get_or-eq_default, drop, drop_of_length-le, get_or, length}
use borrow.Author.Tests.{leb-true, lt-leb, ltb-false, ltb-true}
use Rattle.text_rules.specs.BytesLaws.{and_left, whether}
use Rattle.text_rules.proofs.ScanLaws.{split}
use Rattle.text_rules.proofs.SearchLaws.{in_text}
use Rattle.text_rules.specs.Utf8.{Range, ◌to◌, go_on, is_utf8, well_formed_after, within}
use Rattle.text_rules.proofs.Utf8Cuts.{ascii-first}
use Rattle.utf8.specs.Awaits.{Character, Row, row_of, tails}
use Rattle.utf8.specs.declared.Awaited.{Awaited}

-- one byte that is awaited, at the place i, and those from the next place j on
after-step : (s : List ℕ) (i j : ℕ) → j ≡ i + 1 → (r : Range) (rs : List Range) → 1 ≤ r.low
    → well_formed_after (r ∷ rs) (drop i s) ≡ (within (get_or s i 0) r && well_formed_after rs (drop j s))
unfolding well_formed_after within
after-step s i j e r rs h =
    elim (whether (ltb i (length s))) [
      | inl t ↦ rw (e, split s i (ltb-true i (length s) t))
      | inr t ↦
          let k : length s ≤ i = ltb-false i (length s) t in
          rw (drop_of_length-le s k, get_or-eq_default s 0 k, lt-leb r.low 0 (omega arith))
    ]

-- a byte in a range that is awaited stands in the text
awaited_inside : (s : List ℕ) (i : ℕ) (r : Range) → 1 ≤ r.low → within (get_or s i 0) r ≡ true → i < length s
unfolding within
awaited_inside s i r h t = in_text s i (omega (arith, leb-true r.low (get_or s i 0) (and_left _ _ t)))

-- an ASCII byte is passed
pub ascii-step : (s : List ℕ) (at : ℕ) → at < length s → get_or s at 0 < 128 → is_utf8 (drop at s) ≡ is_utf8 (drop (at + 1) s)
unfolding is_utf8
ascii-step s at h a = ap (well_formed_after []) (split s at h) ∙ ascii-first (get_or s at 0) (drop (at + 1) s) a

-- so are several
pub ascii_steps : (s : List ℕ) (from many : ℕ) → from + many ≤ length s → ((k : ℕ) → from ≤ k → k < from + many → get_or s k 0 < 128)
    → is_utf8 (drop from s) ≡ is_utf8 (drop (from + many) s)
ascii_steps s from zero h b = rw (add-zero from)
ascii_steps s from (suc many) h b =
    let e : from + many + 1 ≡ from + suc many = omega arith in
    ascii_steps s from many (omega arith) (λ k l m. b k l (omega arith)) ∙ ascii-step s (from + many) (omega arith) (b (from + many) (omega arith) (omega arith)) ∙ ap (λ j. is_utf8 (drop j s)) e

pub ascii_to : (s : List ℕ) (from end : ℕ) → from ≤ end → end ≤ length s → ((k : ℕ) → from ≤ k → k < end → get_or s k 0 < 128) → is_utf8 (drop from s) ≡ is_utf8 (drop end s)
ascii_to s from end l h b =
    let e : from + (end - from) ≡ end = omega arith in
    ascii_steps s from (end - from) (omega arith) (λ k m n. b k m (omega arith)) ∙ ap (λ j. is_utf8 (drop j s)) e

pub utf8-end : (s : List ℕ) (at : ℕ) → length s ≤ at → is_utf8 (drop at s) ≡ true
unfolding is_utf8 well_formed_after
utf8-end s at h = ap (well_formed_after []) (drop_of_length-le s h)

module _ (s : List ℕ) (at : ℕ) (h : at < length s) where
  well-formed : (n : ℕ) → 1 ≤ n → at + n ≤ length s → is_utf8 (drop at s) ≡ is_utf8 (drop (at + n) s) → Character s at (Some n)
  well-formed n l k e = record { long = l; well = e; inside = k }

  -- no row begins with it
  pub none-begun : Row (get_or s at 0) None → Character s at None
  unfolding is_utf8 well_formed_after
  none-begun row = ap (well_formed_after []) (split s at h) ∙ ap (λ f. go_on f (λ rs. well_formed_after rs (drop (at + 1) s))) (sym row.row_is)

  module _ (a : Awaited) (row : Row (get_or s at 0) (Some a)) where
    begun : is_utf8 (drop at s) ≡ go_on (row_of a.count a.low a.high) (λ rs. well_formed_after rs (drop (at + 1) s))
    unfolding is_utf8 well_formed_after
    begun = ap (well_formed_after []) (split s at h) ∙ ap (λ f. go_on f (λ rs. well_formed_after rs (drop (at + 1) s))) (sym row.row_is)

    -- what the first byte asks of the second
    second : (n : ℕ) → a.count ≡ suc n
        → is_utf8 (drop at s) ≡ (within (get_or s (at + 1) 0) (a.low to a.high) && well_formed_after (tails n) (drop (at + 2) s))
    second n z = begun ∙ rw z (after-step s (at + 1) (at + 2) (omega arith) (a.low to a.high) (tails n) (omega (arith, row.asked.high)))

    pub second-fails : within (get_or s (at + 1) 0) (a.low to a.high) ≡ false → Character s at None
    second-fails t = second (a.count - 1) (omega (arith, row.asked.some)) ∙ rw t

    module _ (t2 : within (get_or s (at + 1) 0) (a.low to a.high) ≡ true) where
      pub two : a.count ≡ 1 → Character s at (Some 2)
      unfolding is_utf8
      two z = well-formed 2 (omega arith) (omega (arith, awaited_inside s (at + 1) (a.low to a.high) (omega (arith, row.asked.high)) t2)) (second 0 z ∙ rw t2)

      third : (n : ℕ) → a.count ≡ suc (suc n) → is_utf8 (drop at s) ≡ (within (get_or s (at + 2) 0) (0x80 to 0xBF) && well_formed_after (tails n) (drop (at + 3) s))
      third n z = second (suc n) z ∙ rw t2 (after-step s (at + 2) (at + 3) (omega arith) (0x80 to 0xBF) (tails n) (lit≤ tt))

      pub third-fails : a.count ≢ 1 → within (get_or s (at + 2) 0) (0x80 to 0xBF) ≡ false → Character s at None
      third-fails n t = third (a.count - 2) (omega (arith, row.asked.some)) ∙ rw t

      module _ (t3 : within (get_or s (at + 2) 0) (0x80 to 0xBF) ≡ true) where
        pub three : a.count ≡ 2 → Character s at (Some 3)
        unfolding is_utf8
        three z = well-formed 3 (omega arith) (omega (arith, awaited_inside s (at + 2) (0x80 to 0xBF) (lit≤ tt) t3)) (third 0 z ∙ rw t3)

        fourth : a.count ≡ 3 → is_utf8 (drop at s) ≡ (within (get_or s (at + 3) 0) (0x80 to 0xBF) && is_utf8 (drop (at + 4) s))
        unfolding is_utf8
        fourth z = third 1 z ∙ rw t3 (after-step s (at + 3) (at + 4) (omega arith) (0x80 to 0xBF) [] (lit≤ tt))

        pub fourth-fails : a.count ≡ 3 → within (get_or s (at + 3) 0) (0x80 to 0xBF) ≡ false → Character s at None
        fourth-fails z t = fourth z ∙ rw t

        pub four : a.count ≡ 3 → within (get_or s (at + 3) 0) (0x80 to 0xBF) ≡ true → Character s at (Some 4)
        four z t = well-formed 4 (omega arith) (omega (arith, awaited_inside s (at + 3) (0x80 to 0xBF) (lit≤ tt) t)) (fourth z ∙ rw t)
