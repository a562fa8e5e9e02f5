-- The definitions as a loop meets them: from what is done to what is done with one thing more. For the proofs of the code; the promises rest on none of it.
-- (Lines: `lines_next` and `lines-last` of LinesLaws. UTF-8: `well_formed_after` is a loop's form as it stands.)
use Rattle.std.specs.Prelude.{ℕ, ◌+◌, ◌*◌, ◌-◌, ◌≤◌, ◌≡◌, refl, List, [], ◌∷◌, ◌++◌, eqb}
use Rattle.std.proofs.Common.{ap, sym, ◌∙◌, append_assoc, append-nil, arith}
use Rattle.std.proofs.Math.Option.{none, some}
use Rattle.text_rules.specs.Bytes.{if◌then◌otherwise◌, same}
use Rattle.text_rules.specs.Decimal.{value_from}
use Rattle.text_rules.proofs.LineForms.{cons_if}
use Rattle.text_rules.specs.Lines.{without_cr}
use Rattle.gate_rules.specs.Baseline.{Entry, entry_key, later_of, lookup}
use Rattle.gate_rules.proofs.BaselineLaws.{later_assoc, later-none}
use Rattle.gate_rules.specs.Check.{against, listed, regressions}
use Rattle.gate_rules.specs.Functions.{Fun, Limits, key}
use Rattle.gate_rules.specs.Update.{row, rows}

-- a line's last byte decides what it loses
pub without_cr-last : (s : List ℕ) (b : ℕ) → without_cr (s ++ b ∷ []) ≡ (if eqb b 13 then s otherwise s ++ b ∷ [])
unfolding without_cr
without_cr-last [] b = refl
without_cr-last (a ∷ []) b = cons_if (eqb b 13) a [] (b ∷ [])
without_cr-last (a ∷ c ∷ s) b = ap (λ r. a ∷ r) (without_cr-last (c ∷ s) b) ∙ cons_if (eqb b 13) a (c ∷ s) (c ∷ (s ++ b ∷ []))

-- what is found among more entries: the later find wins
pub lookup-append : (k : List ℕ) (es ds : List Entry) → lookup k (es ++ ds) ≡ later_of (lookup k es) (lookup k ds)
unfolding lookup
lookup-append k [] ds = sym (later-none (lookup k ds))
lookup-append k (e ∷ es) ds = rw (lookup-append k es ds) (later_assoc (if same (entry_key e) k then some e otherwise none) (lookup k es) (lookup k ds))

-- a number only grows with its digits: past the limit, it stays past it
pub value_grows : (n : ℕ) (s : List ℕ) → n ≤ value_from n s
unfolding value_from
value_grows n [] = omega arith
value_grows n (b ∷ s) = omega (arith, value_grows (n * 10 + (b - 48)) s)

pub regressions-append : (L : Limits) (es : List Entry) (fs gs : List Fun) → regressions L es (fs ++ gs) ≡ regressions L es fs ++ regressions L es gs
unfolding regressions
regressions-append L es [] gs = refl
regressions-append L es (f ∷ fs) gs = rw (regressions-append L es fs gs) (sym (append_assoc (against L f (lookup (key f) es)) (regressions L es fs) (regressions L es gs)))

pub listed-append : (ls ms : List (List ℕ)) → listed (ls ++ ms) ≡ listed ls ++ listed ms
unfolding listed
listed-append [] ms = refl
listed-append (l ∷ ls) ms = rw (listed-append ls ms) (simp (append_assoc, append-nil))

pub rows_append : (fs gs : List Fun) → rows (fs ++ gs) ≡ rows fs ++ rows gs
unfolding rows
rows_append [] gs = refl
rows_append (f ∷ fs) gs = rw (rows_append fs gs) (sym (append_assoc (row f) (10 ∷ rows fs) (rows gs)))
