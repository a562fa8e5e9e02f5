-- Every number that a call answers is within u32, for every input: a refused call answers 0, and on success the tree is accepted.
-- And an update never writes more than 33,554,432 bytes.
use Rattle.std.specs.Prelude.{ℕ, zero, suc, ◌≤◌, ◌<◌, ◌≡◌, refl, List, ltb, length}
use Rattle.std.proofs.Common.{arith, ltb-false}
use Rattle.text_rules.specs.Answer.{Answer, answer_at}
use Rattle.text_rules.specs.Bytes.{◌when◌}
use Rattle.text_rules.specs.BytesLaws.{or_else-first, when-fails}
use Rattle.text_rules.specs.Sizes.{max_tree}
use Rattle.source_rules.specs.BlankCall.{blank_call, blank_number}
use Rattle.gate_rules.specs.Baseline.{Entry, entries}
use Rattle.gate_rules.proofs.CallLaws.{checked_accepted, reported-accepted, scanned_accepted, updating_accepted}
use Rattle.gate_rules.specs.Calls.{CheckAnswer, UpdateAnswer, check_answer, check_call, check_number, scan_call, scan_number, update_answer, update_call, update_number}
use Rattle.gate_rules.specs.Functions.{Fun, Limits}
use Rattle.gate_rules.specs.Gate.{gate}
use Rattle.gate_rules.proofs.ListingSizes.{baseline-length, listing-length, recorded-most, regressed-most, report-length, stale-count}
use Rattle.gate_rules.specs.Report.{FileSum}
use Rattle.gate_rules.specs.ReportCall.{report_call, report_number, report_of}
use Rattle.gate_rules.specs.Scan.{functions_of}
use Rattle.gate_rules.specs.Update.{baseline_text}

-- what blank, scan and report answer
pub record AnswerFits (a : Answer) : Type 0 where
  pub written : a.written < 4294967296
  pub functions : a.functions < 4294967296

pub record CheckFits (a : CheckAnswer) : Type 0 where
  pub written : a.written < 4294967296
  pub functions : a.functions < 4294967296
  pub regressed : a.regressed < 4294967296
  pub stale : a.stale < 4294967296

pub record UpdateFits (a : UpdateAnswer) : Type 0 where
  pub written : a.written < 4294967296
  pub functions : a.functions < 4294967296
  pub recorded : a.recorded < 4294967296

-- ---- the answers at a number

answer_at_lem : (n written functions : ℕ) → (n ≡ 0 → (written < 4294967296) × (functions < 4294967296)) → AnswerFits (answer_at n written functions)
answer_at_lem zero written functions h = record { written = (h refl).0; functions = (h refl).1 }
answer_at_lem (suc n) written functions h = record { written = omega arith; functions = omega arith }

check-at : (L : Limits) (n : ℕ) (es : List Entry) (fs : List Fun) → (n ≡ 0 → CheckFits (check_answer L 0 es fs)) → CheckFits (check_answer L n es fs)
check-at L zero es fs h = h refl
check-at L (suc n) es fs h = record { written = omega arith; functions = omega arith; regressed = omega arith; stale = omega arith }

-- what update writes at a number, and its counts
update-at : (L : Limits) (n : ℕ) (fs : List Fun) → (n ≡ 0 → (length (baseline_text L fs) ≤ 33554432) × (length fs ≤ 8192)) → UpdateFits (update_answer L n fs) × ((update_answer L n fs).written ≤ 33554432)
update-at L zero fs h = (
  record {
    written = omega (arith, h refl);
    functions = omega (arith, h refl);
    recorded = omega (arith, h refl, recorded-most L fs);
  },
  (h refl).0,
)
update-at L (suc n) fs h = (record { written = omega arith; functions = omega arith; recorded = omega arith }, omega arith)

-- ---- the calls

pub blank_fits : (text output : List ℕ) → AnswerFits (blank_call text output).answer
unfolding blank_call blank_number
blank_fits text output =
    answer_at_lem (blank_number text output) (length text) 0
    (λ z. (omega (arith, ltb-false max_tree (length text) (when-fails 0 _ (or_else-first (1 when ltb max_tree (length text)) _ z))), omega arith))

pub scan_fits : (tree work records : List ℕ) → AnswerFits (scan_call gate tree work records).answer
unfolding scan_call
scan_fits tree work records =
    answer_at_lem (scan_number gate tree work records) 0 (length (functions_of gate tree))
    (λ z. (omega arith, omega (arith, (scanned_accepted tree work records z).few)))

module _ (L : Limits) where
  pub check-fits : (tree baseline work records output : List ℕ) → CheckFits (check_call gate L tree baseline work records output).answer
  unfolding check_call
  check-fits tree baseline work records output =
      let es = entries baseline in
      let fs = functions_of gate tree in
      check-at L (check_number gate L tree baseline work records output) es fs
      (λ z.
      let (a, short) = checked_accepted gate L tree baseline work records output z in
      let few = a.few in
      record {
        written = omega (arith, listing-length L tree a baseline short);
        functions = omega arith;
        regressed = omega (arith, regressed-most L es fs);
        stale = omega (arith, stale-count baseline fs);
      })

  update-both : (tree work records output : List ℕ) → let a = (update_call gate L tree work records output).answer in UpdateFits a × (a.written ≤ 33554432)
  unfolding update_call
  update-both tree work records output =
      update-at L (update_number gate L tree work records output) (functions_of gate tree)
      (λ z. let a = updating_accepted gate L tree work records output z in (baseline-length L tree a, a.few))

  pub update-fits : (tree work records output : List ℕ) → UpdateFits (update_call gate L tree work records output).answer
  update-fits tree work records output = (update-both tree work records output).0

  -- an update never writes more than 33,554,432 bytes
  pub update-short : (tree work records output : List ℕ) → (update_call gate L tree work records output).answer.written ≤ 33554432
  update-short tree work records output = (update-both tree work records output).1

  pub report-fits : (tree work records : List ℕ) (sums : List FileSum) (output : List ℕ) → AnswerFits (report_call gate L tree work records sums output).answer
  unfolding report_call
  report-fits tree work records sums output =
      answer_at_lem (report_number gate L tree work records sums output) (length (report_of gate L tree)) (length (functions_of gate tree))
      (λ z. let a = reported-accepted L tree work records sums output z in (omega (arith, report-length L tree a), omega (arith, a.few)))
