-- A line in the form in which update writes it, read in one walk: path, name and two numbers, a tab between each two of them, and LF behind them.
use Rattle.std.specs.Prelude.{ℕ, zero, suc, ◌+◌, ◌<◌, ◌≤◌, ◌≡◌, ◌≢◌, true, List, Option, Some, None, ltb, length, drop, get_or}
use Rattle.std.proofs.Common.{ap, subst, ◌∙◌, inl, inr, arith, ltb-false, ltb-true}
use Rattle.std.proofs.Math.Option.{some}
use Rattle.text_rules.specs.BytesLaws.{whether}
use Rattle.text_rules.specs.Classes.{is_digit, tab}
use Rattle.text_rules.proofs.ScanLaws.{bytes_before-more}
use Rattle.text_rules.specs.Search.{bytes_before, part}
use Rattle.gate_rules.specs.Baseline.{entry_of}
use Rattle.baseline.specs.Reads.{KeyFrom, key_of_entry, line_at}
use Rattle.baseline.specs.declared.Bounds.{Bounds}

-- from one place up to another no byte is a tab or an LF, nor one below them
abbrev pub Text : List ℕ → (from to : ℕ) → Type 0
Text s from to = (i : ℕ) → from ≤ i → i < to → 10 < get_or s i 0

-- from one place up to another all bytes are digits
abbrev pub Digits : List ℕ → (from to : ℕ) → Type 0
Digits s from to = (i : ℕ) → from ≤ i → i < to → is_digit (get_or s i 0) ≡ true

-- one to nine digits, up to a place where the byte x stands
pub record NumberField (s : List ℕ) (from to x : ℕ) : Type 0 where
  pub digits : Digits s from to
  pub some_digit : from < to
  pub few : to ≤ from + 9
  pub inside : to < length s
  pub mark : get_or s to 0 ≡ x

-- a line's path, which ends at `a`, a tab, and text from there up to `at`
pub record Front (s : List ℕ) (from a at : ℕ) : Type 0 where
  pub first : get_or s from 0 ≢ 35
  pub begins : from ≤ a
  pub path : Text s from a
  pub mark : get_or s a 0 ≡ tab
  pub goes_on : a < at
  pub name : Text s (a + 1) at
  pub inside : at ≤ length s

-- a key is a path, a tab and a name without a tab or an LF
abbrev pub PlainKey : (key : List ℕ) → (path : ℕ) → Type 0
PlainKey k path = Front k 0 path (length k)

-- a line with an entry: where it ends, its path and its key
pub record PlainLine (s : List ℕ) (from path name end : ℕ) : Type 0 where
  pub front : Front s from (from + path) name
  pub stop : get_or s name 0 ≡ tab
  pub ends : end ≡ from + bytes_before 10 (drop from s)
  pub within : name + 4 ≤ end
  pub inside : end < length s
  pub whole : part from end s ≡ line_at s from end
  pub path-is : path ≡ bytes_before tab (part from end s)
  pub key-is : some (part from name s) ≡ key_of_entry (entry_of (part from end s))
  pub key_from : KeyFrom (some (part from name s)) (part from end s) path

abbrev pub ReadPlain : List ℕ → (from : ℕ) → Option Bounds → Type 0
ReadPlain s from (Some l) = PlainLine s from l.path l.name l.end
ReadPlain s from None = Unit {0}

-- what holds of the bytes up to a place, after one byte more
pub each_next : (P : ℕ → Type 0) (s : List ℕ) (from at : ℕ) → ((i : ℕ) → from ≤ i → i < at → P (get_or s i 0)) → P (get_or s at 0)
    → (i : ℕ) → from ≤ i → i < at + 1 → P (get_or s i 0)
each_next P s from at h p i k l =
    elim (whether (ltb i at)) [
      | inl t ↦ h i k (ltb-true i at t)
      | inr t ↦
          let e : at ≡ i = omega (arith, ltb-false i at t) in
          subst (λ (j : ℕ). P (get_or s j 0)) e p
    ]

-- text behind text
pub front-more : (s : List ℕ) (from a at to : ℕ) → Front s from a at → at ≤ to → to ≤ length s → Text s at to → Front s from a to
front-more s from a at to f h k t =
    record {
      first = f.first;
      begins = f.begins;
      path = f.path;
      mark = f.mark;
      goes_on = omega (arith, f.goes_on);
      name = λ i l m. elim (whether (ltb i at)) [ inl e ↦ f.name i l (ltb-true i at e) | inr e ↦ t i (ltb-false i at e) m ];
      inside = k;
    }

-- a place with no x before it is the next x, if an x stands there or the text ends
pub to-mark : (x : ℕ) (s : List ℕ) (k from : ℕ) → from + k ≤ length s → bytes_before x (drop (from + k) s) ≡ 0
    → ((i : ℕ) → from ≤ i → i < from + k → get_or s i 0 ≢ x) → from + k ≡ from + bytes_before x (drop from s)
to-mark x s zero from h e n =
    let same : from ≡ from + 0 = omega arith in
    omega (arith, ap (λ (j : ℕ). bytes_before x (drop j s)) same, e)
to-mark x s (suc k) from h e n =
    let there : from + 1 + k ≡ from + suc k = omega arith in
    let more = bytes_before-more s from (omega arith) x (n from (omega arith) (omega arith)) in
    let rest = to-mark x s k (from + 1) (omega arith) (ap (λ (j : ℕ). bytes_before x (drop j s)) there ∙ e) (λ i l m. n i (omega arith) (omega arith)) in
    omega (arith, more, rest)
