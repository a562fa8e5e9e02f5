-- The regression lines of the functions that a loop has still to come to.
use Prim.Native.Nat.{ℕ, suc, ◌+◌, ◌≤◌, ◌<◌}
use mathlib.Core.Path.{◌≡◌, ap, ap₂, sym, ◌∙◌}
use mathlib.Core.List.{List, [], ◌++◌}
use native.Mathlib.Numerals.{add-one}
use Rattle.std.specs.Prelude.{Option}
use lib.ListN.{length, drop, get_or, drop_of_length-le, length-append}
use lib.Seq.{drop-cons}
use Rattle.gate_rules.specs.Baseline.{Entry, lookup}
use Rattle.gate_rules.specs.Check.{against, listed, regressions}
use Rattle.gate_rules.specs.Functions.{Fun, Limits, key}
use Rattle.gate_rules.proofs.LoopForms.{listed-append}
use Rattle.functions.specs.Shown.{no_fun}
use Rattle.baseline.specs.Reads.{accepted_by}
use Rattle.baseline.specs.declared.Recorded.{Recorded}
use Rattle.regression_sizes.specs.Lines.{accepts, accepts-is, both-length}

module _ (L : Limits) (es : List Entry) (fs : List Fun) where
  abbrev pub left : ℕ → List (List ℕ)
  left k = regressions L es (drop k fs)

  -- the function with the number, then the others
  pub left_step : (k : ℕ) (f : Fun) (a : Option Recorded) → f ≡ get_or fs k no_fun → a ≡ accepted_by (lookup (key f) es) → k < length fs → left k ≡ accepts L f a ++ left (k + 1)
  unfolding regressions
  left_step k f a e d h =
      ap (regressions L es) (drop-cons fs k no_fun h)
      ∙ ap (λ g. against L g (lookup (key g) es) ++ left (suc k)) (sym e)
      ∙ ap₂ (λ ls n. ls ++ left n) (sym (ap (accepts L f) d ∙ accepts-is L f (lookup (key f) es))) (sym (add-one k))

  pub left_end : (k : ℕ) → length fs ≤ k → left k ≡ []
  unfolding regressions
  left_end k h = ap (regressions L es) (drop_of_length-le fs h)

pub count-step : (here mine rest : List (List ℕ)) → here ≡ mine ++ rest → length here ≡ length mine + length rest
count-step here mine rest e = ap length e ∙ length-append mine rest

pub bytes_step : (here mine rest : List (List ℕ)) → here ≡ mine ++ rest → length (listed here) ≡ length (listed mine) + length (listed rest)
bytes_step here mine rest e = ap (λ ls. length (listed ls)) e ∙ both-length mine rest

pub none_bytes : (ls : List (List ℕ)) → ls ≡ [] → length (listed ls) ≡ 0
unfolding listed
none_bytes ls e = ap (λ l. length (listed l)) e

-- the lines as they are listed
pub listed_step : (here mine rest : List (List ℕ)) → here ≡ mine ++ rest → listed here ≡ listed mine ++ listed rest
listed_step here mine rest e = ap listed e ∙ listed-append mine rest
