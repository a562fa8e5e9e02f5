-- Lines that are plain or start with #, as those of update's header do, and where their keys stand.
use Rattle.std.specs.Prelude.{ℕ, zero, suc, ◌+◌, ◌-◌, ◌<◌, ◌≡◌, ◌≢◌, List, [], ◌∷◌, eqb, length, take, drop, get_or}
use Rattle.std.proofs.Common.{subst, sym, inl, inr, add-one, arith}
use Rattle.std.proofs.lemmas.Bool.{eqb-false}
use Rattle.text_rules.specs.BytesLaws.{whether}
use Rattle.text_rules.specs.Classes.{tab}
use Rattle.text_rules.specs.Search.{bytes_before, run}
use Rattle.gate_rules.specs.Baseline.{entry_of}
use Rattle.baseline.specs.Ordered.{one_key}
use Rattle.baseline.specs.Reads.{key_of_entry, line_at}
use Rattle.baseline.specs.Plain.{PlainLine}

-- a line begins at a place: at the start, or behind an LF
abbrev pub Begins : List ℕ → ℕ → Type 0
Begins s zero = Unit {0}
Begins s (suc i) = get_or s i 0 ≡ 10

-- the next tab, and the one behind it
abbrev pub tab_from : List ℕ → ℕ → ℕ
tab_from s from = from + bytes_before tab (drop from s)

abbrev pub second_tab : List ℕ → ℕ → ℕ
second_tab s from = tab_from s (tab_from s from + 1)

-- where the line at a place ends
abbrev pub line_end : List ℕ → ℕ → ℕ
line_end s from = from + bytes_before 10 (drop from s)

-- the line at a place is plain: its path ends at the first tab, and its name at the second one
abbrev pub PlainHere : List ℕ → ℕ → Type 0
PlainHere s from = PlainLine s from (tab_from s from - from) (second_tab s from) (line_end s from)

-- the line at a place is plain, unless it starts with #
abbrev pub PlainOrNote : List ℕ → ℕ → Type 0
PlainOrNote s from = get_or s from 0 ≢ 35 → PlainHere s from

abbrev pub AllPlain : List ℕ → Type 0
AllPlain s = (from : ℕ) → Begins s from → from < length s → PlainOrNote s from

-- the key of the line at a place, as a list
abbrev pub keys_at : List ℕ → ℕ → List (List ℕ)
keys_at s from = one_key (key_of_entry (entry_of (line_at s from (line_end s from))))

-- the bytes before the first tab
abbrev pub first_field : List ℕ → List ℕ
first_field t = take (bytes_before tab t) t

pub begins-next : (s : List ℕ) (end : ℕ) → get_or s end 0 ≡ 10 → Begins s (end + 1)
begins-next s end e = subst (Begins s) (sym (add-one end)) e

pub no-mark : (x : ℕ) (t : List ℕ) (i : ℕ) → i < bytes_before x t → get_or t i 0 ≢ x
unfolding run
no-mark x [] i h e = omega arith
no-mark x (b ∷ t) zero h e =
    elim (whether (eqb b x)) [
      | inl q ↦ let h' = rw (q, run) at h in omega arith
      | inr q ↦ eqb-false b x q e
    ]
no-mark x (b ∷ t) (suc i) h e =
    elim (whether (eqb b x)) [
      | inl q ↦ let h' = rw (q, run) at h in omega arith
      | inr q ↦ let h' = rw (q, run) at h in no-mark x t i (omega arith) e
    ]
