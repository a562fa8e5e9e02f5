-- A line that is read in one walk, in the words of the rules.
use Prim.Native.Nat.{ℕ, zero, suc, ◌+◌, ◌*◌, ◌-◌, ◌≤◌, ◌<◌}
use mathlib.Core.Path.{◌≡◌, refl, ap, subst, sym, ◌∙◌}
use mathlib.Core.Logic.{◌≢◌, inl, inr}
use mathlib.Core.Bool.{true, not}
use mathlib.Core.List.{List, [], ◌∷◌}
use mathlib.Core.Option.{some}
use native.Mathlib.Omega.{arith}
use lib.Dec.{eqb, ltb}
use lib.ListN.{length, take, drop, get_or, length-drop, length-take}
use lib.Seq.{get_or-drop, get_or-take, take-take}
use borrow.Author.Tests.{eqb-false, eqb-true, le-leb, lt-ltb, ltb-false, ltb-true}
use Rattle.text_rules.specs.BytesLaws.{whether}
use Rattle.text_rules.specs.Classes.{is_digit}
use Rattle.text_rules.specs.Decimal.{all_digits, parse_number, value_from}
use Rattle.text_rules.proofs.ClassesLaws.{digit_range_lem}
use Rattle.text_rules.proofs.LineForms.{trim-other}
use Rattle.text_rules.proofs.ScanLaws.{bytes_before-stop, run_end}
use Rattle.text_rules.specs.Search.{bytes_before, part}
use Rattle.baseline.specs.Plain.{Digits, Front, NumberField, PlainLine, Text, to-mark}
use Rattle.baseline.specs.Reads.{Inside, KeyFrom}
use Rattle.std.specs.Prelude.{Some}
use Rattle.baseline.specs.declared.Listed.{Listed}
use Rattle.baseline.specs.Fields.{both_read, four-fields}
use Rattle.baseline.proofs.KeyBounds.{key-from, key-some}
use Rattle.baseline.proofs.Numbers.{numeral-start, plus_none}

-- ---- numbers of at most nine digits

-- the largest number with k digits behind those that made n
most : (n k : ℕ) → ℕ
most n zero = n
most n (suc k) = most (n * 10 + 9) k

most_mono : (k m n : ℕ) → m ≤ n → most m k ≤ most n k
unfolding most
most_mono zero m n h = h
most_mono (suc k) m n h = most_mono k (m * 10 + 9) (n * 10 + 9) (omega arith)

most-more : (n k : ℕ) → most n k ≤ most n (suc k)
unfolding most
most-more n k = most_mono k n (n * 10 + 9) (omega arith)

-- at most nine digits make less than 10 to the 9
most_up : (j k : ℕ) → j + k ≡ 9 → most 0 k ≤ 999999999
unfolding most
most_up zero k e = let q : k ≡ 9 = omega arith in omega (arith, ap (most 0) q)
most_up (suc j) k e = omega (arith, most-more 0 k, most_up j (suc k) (omega arith))

-- digits, each by its place
abbrev DigitsIn : List ℕ → Type 0
DigitsIn t = (i : ℕ) → i < length t → is_digit (get_or t i 0) ≡ true

rest-digits : (b : ℕ) (t : List ℕ) → DigitsIn (b ∷ t) → DigitsIn t
rest-digits b t h i k = h (suc i) (omega arith)

digits_all : (t : List ℕ) → DigitsIn t → all_digits t ≡ true
unfolding all_digits
digits_all [] h = refl
digits_all (b ∷ t) h = rw (h 0 (omega arith)) (digits_all t (rest-digits b t h))

value_most : (n : ℕ) (t : List ℕ) → DigitsIn t → value_from n t ≤ most n (length t)
unfolding value_from most
value_most n [] h = omega arith
value_most n (b ∷ t) h =
    let d = digit_range_lem b (h 0 (omega arith)) in
    omega (
      arith,
      value_most (n * 10 + (b - 48)) t (rest-digits b t h),
      most_mono (length t) (n * 10 + (b - 48)) (n * 10 + 9) (omega arith),
    )

pub nine-digits : (limit : ℕ) (t : List ℕ) → 999999999 ≤ limit → 0 < length t → length t ≤ 9 → DigitsIn t → parse_number limit t ≡ some (value_from 0 t)
nine-digits limit t h some_digit few d =
    let first = digit_range_lem (get_or t 0 0) (d 0 some_digit) in
    let small : value_from 0 t ≤ limit = omega (arith, value_most 0 t d, most_up (9 - length t) (length t) (omega arith)) in
    plus_none limit t (λ e. omega arith)
    ∙ sym (numeral-start limit t (λ e. omega arith))
    ∙ rw (digits_all t d, le-leb (value_from 0 t) limit small)

-- ---- places

module _ (s : List ℕ) (from d : ℕ) (h : from ≤ d) (k : d ≤ length s) where
  line-length : length (part from d s) ≡ d - from
  line-length = simp (length-take, length-drop) (omega arith)

  line-byte : (i : ℕ) → i < d - from → get_or (part from d s) i 0 ≡ get_or s (from + i) 0
  line-byte i l = get_or-take (d - from) (drop from s) i 0 l ∙ get_or-drop from s i 0

  -- where a field of the line ends, by the bytes of the text
  field_ends : (lo hi : ℕ) → lo ≤ hi → from + hi ≤ d → bytes_before 9 (drop hi (part from d s)) ≡ 0
      → ((i : ℕ) → from + lo ≤ i → i < from + hi → get_or s i 0 ≢ 9) → hi ≡ lo + bytes_before 9 (drop lo (part from d s))
  field_ends lo hi l m e n =
      let there : lo + (hi - lo) ≡ hi = omega arith in
      let ends = to-mark 9 (part from d s) (hi - lo) lo (omega (arith, line-length)) (ap (λ (j : ℕ). bytes_before 9 (drop j (part from d s))) there ∙ e)
      (λ i o p q. n (from + i) (omega arith) (omega arith) (sym (line-byte i (omega arith)) ∙ q)) in
      omega (arith, ends)

  field_mark : (hi : ℕ) → from + hi < d → get_or s (from + hi) 0 ≡ 9 → bytes_before 9 (drop hi (part from d s)) ≡ 0
  field_mark hi l e = bytes_before-stop (part from d s) hi (omega (arith, line-length)) 9 (line-byte hi (omega arith) ∙ e)

  -- a number field of the line
  field_read_lem : (limit lo hi : ℕ) → 999999999 ≤ limit → lo < hi → hi ≤ lo + 9 → from + hi ≤ d → Digits s (from + lo) (from + hi)
      → parse_number limit (part lo hi (part from d s)) ≡ some (value_from 0 (part lo hi (part from d s)))
  field_read_lem limit lo hi big l few m n =
      let size : length (part lo hi (part from d s)) ≡ hi - lo = simp (length-take, length-drop) (omega (arith, line-length)) in
      nine-digits limit (part lo hi (part from d s)) big (omega arith) (omega arith) (λ i o. byte i (omega arith))
    where
      byte : (i : ℕ) → i < hi - lo → is_digit (get_or (part lo hi (part from d s)) i 0) ≡ true
      byte i o =
          ap is_digit (get_or-take (hi - lo) (drop lo (part from d s)) i 0 o ∙ get_or-drop lo (part from d s) i 0 ∙ line-byte (lo + i) (omega arith))
          ∙ n (from + (lo + i)) (omega arith) (omega arith)

-- ---- the line

-- from one place up to another no byte is x
abbrev Without : (x : ℕ) (s : List ℕ) (from to : ℕ) → Type 0
Without x s from to = (i : ℕ) → from ≤ i → i < to → get_or s i 0 ≢ x

over : (x : ℕ) (s : List ℕ) (from mid to : ℕ) → Without x s from mid → get_or s mid 0 ≢ x → Without x s (mid + 1) to → Without x s from to
over x s from mid to p q r i h k =
    elim (whether (ltb i mid)) [
      | inl t ↦ p i h (ltb-true i mid t)
      | inr t ↦ elim (whether (eqb i mid)) [
        | inl u ↦ λ e. q (ap (λ (j : ℕ). get_or s j 0) (sym (eqb-true i mid u)) ∙ e)
        | inr u ↦ r i (omega (arith, ltb-false i mid t, eqb-false i mid u)) k
      ]
    ]

text-without : (x : ℕ) (s : List ℕ) (from to : ℕ) → x ≤ 10 → Text s from to → Without x s from to
text-without x s from to h t i k l e = omega (arith, t i k l)

digits-without : (x : ℕ) (s : List ℕ) (from to : ℕ) → x ≤ 10 → Digits s from to → Without x s from to
digits-without x s from to h t i k l e = omega (arith, digit_range_lem (get_or s i 0) (t i k l))

module _ (s : List ℕ) (from a b c d : ℕ) (f : Front s from a b) (mb : get_or s b 0 ≡ 9) (m : NumberField s (b + 1) c 9) (n : NumberField s (c + 1) d 10) where
  no-lf : Without 10 s from d
  no-lf =
      over 10 s from a d (text-without 10 s from a (omega arith) f.path) (λ e. omega (arith, f.mark))
      (over 10 s (a + 1) b d (text-without 10 s (a + 1) b (omega arith) f.name) (λ e. omega arith)
      (over 10 s (b + 1) c d (digits-without 10 s (b + 1) c (omega arith) m.digits) (λ e. omega (arith, m.mark)) (digits-without 10 s (c + 1) d (omega arith) n.digits)))

  line-ends : d ≡ from + bytes_before 10 (drop from s)
  line-ends =
      let there : from + (d - from) ≡ d = omega (arith, f.begins, f.goes_on, m.some_digit, n.some_digit) in
      let stop = ap (λ (j : ℕ). bytes_before 10 (drop j s)) there ∙ bytes_before-stop s d n.inside 10 n.mark in
      omega (arith, to-mark 10 s (d - from) from (omega (arith, n.inside)) stop (λ i h k. no-lf i h (omega arith)))

  pub plain-line : PlainLine s from (a - from) b d
  plain-line =
      let order : (from ≤ a) × (a < b) × (b + 1 < c) × (c + 1 < d) × (d < length s) = (f.begins, f.goes_on, m.some_digit, n.some_digit, n.inside) in
      let line = part from d s in
      let h : from ≤ d = omega (arith, order) in
      let k : d ≤ length s = omega (arith, order) in
      let size : length line ≡ d - from = line-length s from d h k in
      let la : from + (a - from) ≡ a = omega (arith, order) in
      let lb : from + (b - from) ≡ b = omega (arith, order) in
      let lc : from + (c - from) ≡ c = omega (arith, order) in
      let ta = ap (λ (j : ℕ). get_or s j 0) la ∙ f.mark in
      let tb = ap (λ (j : ℕ). get_or s j 0) lb ∙ mb in
      let tc = ap (λ (j : ℕ). get_or s j 0) lc ∙ m.mark in
      let ea = field_ends s from d h k 0 (a - from) (omega arith) (omega (arith, order)) (field_mark s from d h k (a - from) (omega (arith, order)) ta)
      (λ i o p. text-without 9 s from a (omega arith) f.path i (omega arith) (omega arith)) in
      let eb = field_ends s from d h k (a - from + 1) (b - from) (omega (arith, order)) (omega (arith, order)) (field_mark s from d h k (b - from) (omega (arith, order)) tb)
      (λ i o p. text-without 9 s (a + 1) b (omega arith) f.name i (omega arith) (omega arith)) in
      let ec = field_ends s from d h k (b - from + 1) (c - from) (omega (arith, order)) (omega (arith, order)) (field_mark s from d h k (c - from) (omega (arith, order)) tc)
      (λ i o p. digits-without 9 s (b + 1) c (omega arith) m.digits i (omega arith) (omega arith)) in
      let ed = field_ends s from d h k (c - from + 1) (d - from) (omega (arith, order)) (omega (arith, order)) (run_end line (d - from) (λ (b : ℕ). not (eqb b 9)) (omega (arith, size)))
      (λ i o p. digits-without 9 s (c + 1) d (omega arith) n.digits i (omega arith) (omega arith)) in
      let first : get_or line 0 0 ≢ 35 = λ e. f.first (ap (λ (j : ℕ). get_or s j 0) (zero_more from) ∙ sym (line-byte s from d h k 0 (omega (arith, order))) ∙ e) in
      let fields = four-fields line first (a - from) ea (omega (arith, order, size)) (b - from) eb (omega (arith, order, size)) (c - from) ec (omega (arith, order, size)) (d - from) ed in
      let x = field_read_lem s from d h k 4294967295 (b - from + 1) (c - from) (omega arith) (omega (arith, order)) (omega (arith, order, m.few)) (omega (arith, order))
      (λ i o p. m.digits i (omega arith) (omega arith)) in
      let y = field_read_lem s from d h k 18446744073709551615 (c - from + 1) (d - from) (omega arith) (omega (arith, order)) (omega (arith, order, n.few)) (omega (arith, order))
      (λ i o p. n.digits i (omega arith) (omega arith)) in
      let listed : Listed = record { path_end = a - from; name_end = b - from; cyclomatic = value_from 0 (part (b - from + 1) (c - from) line); lines = value_from 0 (part (c - from + 1) (d - from) line) } in
      let inside : Inside line (Some listed) = (omega (arith, order), omega (arith, order, size), line-byte s from d h k (a - from) (omega (arith, order)) ∙ ta) in
      let is = both_read _ _ _ _ _ _ x y ∙ sym fields in
      let key : part from b s ≡ take (b - from) line = sym (take-take (b - from) (d - from) (drop from s) (omega (arith, order))) in
      record {
        front = subst (λ (j : ℕ). Front s from j b) (sym la) f;
        stop = mb;
        ends = line-ends;
        within = omega (arith, order);
        inside = n.inside;
        whole = rw (lt-ltb d (length s) n.inside) (sym (trim-other s from d (omega (arith, order)) k last_digit));
        path-is = omega (arith, ea);
        key-is = ap some key ∙ key-some line (Some listed) inside is listed refl;
        key_from = subst (λ t. KeyFrom (some t) line (a - from)) (sym key) (key-from line (Some listed) inside is (a - from) refl listed refl);
      }
    where
      zero_more : (i : ℕ) → i ≡ i + 0
      zero_more i = omega arith

      last_digit : get_or s (d - 1) 0 ≢ 13
      last_digit e = omega (arith, digit_range_lem (get_or s (d - 1) 0) (n.digits (d - 1) (omega (arith, n.some_digit)) (omega (arith, n.some_digit))))
