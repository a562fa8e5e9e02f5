-- The exports against the calls. Where the lent bytes have room for the counts, an export ends as its call does, and on success the counts
-- stand in those bytes; where they have not, 5 is returned at 5's place and every buffer stays.
use Rattle.std.specs.Prelude.{ℕ, zero, suc, ◌≤◌, ◌<◌, ◌≡◌, List, [], ◌++◌, ◌∷◌}
use Rattle.std.proofs.Math.Path.{refl, ap, ap₂}
use Rattle.std.proofs.Common.{sym, ◌∙◌, arith, drop_at, le-ltb, lt-ltb}
use Rattle.std.proofs.Math.ListN.{length, drop}
use Rattle.text_rules.specs.Answer.{answer_at}
use Rattle.text_rules.specs.Bytes.{◌or_else◌}
use Rattle.text_rules.specs.U32.{u32_bytes, u32s_bytes}
use Rattle.source_rules.specs.BlankCall.{blank_call, blank_number}
use Rattle.gate_rules.specs.Baseline.{entries}
use Rattle.gate_rules.specs.Calls.{check_answer, check_call, check_number, output_after, records_after, scan_call, scan_number, update_answer, update_call, update_number, work_after}
use Rattle.gate_rules.specs.Exports.{Exported, export_number, exported_at, exported_blank, exported_check, exported_report, exported_scan, exported_update}
use Rattle.gate_rules.specs.Functions.{Limits}
use Rattle.gate_rules.specs.Gate.{gate}
use Rattle.gate_rules.specs.Left.{ExportedLeft}
use Rattle.gate_rules.proofs.LeftLaws.{exported_check-left, exported_report-left, exported_scan_left, exported_update-left, output-leaves}
use Rattle.gate_rules.proofs.RefusalLaws.{or_else_twice}
use Rattle.gate_rules.specs.Report.{FileSum, empty_sums}
use Rattle.gate_rules.specs.ReportCall.{report_call, report_number, report_of}
use Rattle.gate_rules.specs.Scan.{functions_of}
use Rattle.gate_rules.specs.Table.{tree_rows}
use Rattle.gate_rules.proofs.TableLaws.{answer-number, at_most, checked_number, report_any_sums, tree-first, updated_number}
use Rattle.gate_rules.specs.Tree.{sources, tree_refusal}

-- An export that ends as a call does: `number`, `work'`, `records''` and `output'` are the call's, `values` the counts of its answer.
-- On success the first `width` bytes of the counts hold the values, as four bytes each; bytes beyond stay.
pub record EndsAs (width : ℕ) (values : List ℕ) (number : ℕ) (work' records'' output' counts : List ℕ) (e : Exported) : Type 0 where
  pub same_number : e.number ≡ number
  pub same-work : e.work ≡ work'
  pub same-records : e.records ≡ records''
  pub same-output : e.output ≡ output'
  pub success-counts : number ≡ 0 → e.counts ≡ u32s_bytes values ++ drop width counts
  pub refused-counts : 1 ≤ number → e.counts ≡ counts
  pub beyond-counts : drop width e.counts ≡ drop width counts

-- an export that was lent too few bytes for the counts
pub record TooFew (tree work records' output counts : List ℕ) (e : Exported) : Type 0 where
  pub number-five : e.number ≡ (tree_refusal tree or_else 5)
  pub same-work : e.work ≡ work
  pub same-records : e.records ≡ records'
  pub same-output : e.output ≡ output
  pub same-counts : e.counts ≡ counts

-- ROOM FOR THE COUNTS

-- the number is the call's own
own-number : (width : ℕ) (tree counts : List ℕ) (rest : ℕ) → width ≤ length counts → export_number gate width tree counts (tree_refusal tree or_else rest) ≡ (tree_refusal tree or_else rest)
unfolding export_number gate
own-number width tree counts rest h = rw (le-ltb (length counts) width h) (or_else_twice (tree_refusal tree) rest)

-- counts, written or not
beyond-put : (width n : ℕ) (bytes counts : List ℕ) → length bytes ≡ width → drop width (output_after n bytes counts) ≡ drop width counts
beyond-put width zero bytes counts e = drop_at bytes (drop (length bytes) counts) width e ∙ ap (λ k. drop k counts) e
beyond-put width (suc n) bytes counts e = refl

-- `put` are the counts as the export reckons them, `values` as the call's answer has them
module _ (width : ℕ) (tree text put values work records' output counts : List ℕ) (wide : length (u32s_bytes put) ≡ width) (n : ℕ) (same : n ≡ 0 → put ≡ values) where
  ends_as : (m : ℕ) → m ≡ n
      → EndsAs width values n (work_after gate n tree work) (records_after gate n tree records') (output_after n text output) counts
      (exported_at gate m tree text put work records' output counts)
  unfolding exported_at
  ends_as m e =
      let left = output-leaves n (u32s_bytes put) counts in
      rw e
      (record {
        same_number = refl;
        same-work = refl;
        same-records = refl;
        same-output = refl;
        success-counts = λ z. left.written-output z ∙ ap₂ (λ vs k. u32s_bytes vs ++ drop k counts) (same z) wide;
        refused-counts = left.refused-output;
        beyond-counts = beyond-put width n (u32s_bytes put) counts wide;
      })

-- scan has no output
no_output : (n : ℕ) → output_after n [] [] ≡ []
no_output zero = refl
no_output (suc n) = refl

answer-functions : (n written functions : ℕ) → n ≡ 0 → functions ≡ (answer_at n written functions).functions
answer-functions zero written functions e = refl
answer-functions (suc n) written functions e = absurd (omega arith)

answer-written : (n written functions : ℕ) → n ≡ 0 → written ≡ (answer_at n written functions).written
answer-written zero written functions e = refl
answer-written (suc n) written functions e = absurd (omega arith)

scan_own : (tree work records' counts : List ℕ) → 4 ≤ length counts → export_number gate 4 tree counts (scan_number gate tree work records') ≡ scan_number gate tree work records'
unfolding scan_number gate
scan_own tree work records' counts h = own-number 4 tree counts _ h

pub scan_export : (tree work records' counts : List ℕ) → 4 ≤ length counts
    → let c = scan_call gate tree work records' in
    EndsAs 4 (c.answer.functions ∷ []) c.answer.number c.work c.records [] counts (exported_scan gate tree work records' counts)
unfolding scan_call exported_scan u32_bytes
scan_export tree work records' counts h =
    let n = scan_number gate tree work records' in
    let c = scan_call gate tree work records' in
    let ends = ends_as 4 tree [] _ (c.answer.functions ∷ []) work records' [] counts refl n
    (λ e. ap (λ k. k ∷ []) (answer-functions n 0 (length (functions_of gate tree)) e)) _ (scan_own tree work records' counts h) in
    rw (answer-number n) (rw (no_output n) at ends)

module _ (L : Limits) where
  check-own : (tree baseline work records' output counts : List ℕ) → 16 ≤ length counts
      → export_number gate 16 tree counts (check_number gate L tree baseline work records' output) ≡ check_number gate L tree baseline work records' output
  unfolding check_number gate
  check-own tree baseline work records' output counts h = own-number 16 tree counts _ h

  pub check_export : (tree baseline work records' output counts : List ℕ) → 16 ≤ length counts
      → let c = check_call gate L tree baseline work records' output in
      EndsAs 16 (c.answer.written ∷ c.answer.functions ∷ c.answer.regressed ∷ c.answer.stale ∷ []) c.answer.number c.work c.records c.output counts
      (exported_check gate L tree baseline work records' output counts)
  unfolding check_call exported_check u32_bytes
  check_export tree baseline work records' output counts h =
      let n = check_number gate L tree baseline work records' output in
      let own = check-own tree baseline work records' output counts h in
      rw (checked_number L n)
      (ends_as 16 tree _ _ _ work records' output counts refl n
      (λ e. ap (λ k. let a = check_answer L k (entries baseline) (functions_of gate tree) in a.written ∷ a.functions ∷ a.regressed ∷ a.stale ∷ []) own) _ own)

  update-own : (tree work records' output counts : List ℕ) → 12 ≤ length counts
      → export_number gate 12 tree counts (update_number gate L tree work records' output) ≡ update_number gate L tree work records' output
  unfolding update_number gate
  update-own tree work records' output counts h = own-number 12 tree counts _ h

  pub update_export : (tree work records' output counts : List ℕ) → 12 ≤ length counts
      → let u = update_call gate L tree work records' output in
      EndsAs 12 (u.answer.written ∷ u.answer.functions ∷ u.answer.recorded ∷ []) u.answer.number u.work u.records u.output counts
      (exported_update gate L tree work records' output counts)
  unfolding update_call exported_update u32_bytes
  update_export tree work records' output counts h =
      let n = update_number gate L tree work records' output in
      let own = update-own tree work records' output counts h in
      rw (updated_number L n)
      (ends_as 12 tree _ _ _ work records' output counts refl n
      (λ e. ap (λ k. let a = update_answer L k (functions_of gate tree) in a.written ∷ a.functions ∷ a.recorded ∷ []) own) _ own)

  report-own : (tree work records' : List ℕ) (sums : List FileSum) (output counts : List ℕ) → 8 ≤ length counts
      → export_number gate 8 tree counts (report_number gate L tree work records' sums output) ≡ report_number gate L tree work records' sums output
  unfolding report_number gate
  report-own tree work records' sums output counts h = own-number 8 tree counts _ h

  -- report's export has its own table of sums: it ends as the call does with whatever table of an entry for each file
  pub report_export : (tree work records' : List ℕ) (sums : List FileSum) (output counts : List ℕ) → length (sources tree) ≤ length sums → 8 ≤ length counts
      → let r = report_call gate L tree work records' sums output in
      EndsAs 8 (r.answer.written ∷ r.answer.functions ∷ []) r.answer.number r.work r.records r.output counts
      (exported_report gate L tree work records' output counts)
  unfolding report_call exported_report u32_bytes
  report_export tree work records' sums output counts enough h =
      let n = report_number gate L tree work records' sums output in
      let listed = length (report_of gate L tree) in
      let found = length (functions_of gate tree) in
      rw (answer-number n)
      (ends_as 8 tree _ _ _ work records' output counts refl n
      (λ e. ap₂ (λ w k. w ∷ k ∷ []) (answer-written n listed found e) (answer-functions n listed found e)) _
      (report-own tree work records' empty_sums output counts h ∙ report_any_sums L tree work records' sums output enough))

-- TOO FEW BYTES FOR THE COUNTS

five : (width : ℕ) (tree counts : List ℕ) (n : ℕ) → length counts < width → export_number gate width tree counts n ≡ (tree_refusal tree or_else 5)
unfolding export_number gate
five width tree counts n h = rw (lt-ltb (length counts) width h)

some_number : (m : ℕ) → 1 ≤ (m or_else 5)
some_number zero = omega arith
some_number (suc m) = omega arith

most-number : (m : ℕ) → m ≤ 4 → (m or_else 5) ≤ 7
most-number zero h = omega arith
most-number (suc m) h = omega arith

-- what is left at such a number is what was there
too_few : (tree text values work records' output counts : List ℕ) (e : Exported) → ExportedLeft tree text values work records' output counts e
    → e.number ≡ (tree_refusal tree or_else 5) → TooFew tree work records' output counts e
too_few tree text values work records' output counts e left n =
    let low : 1 ≤ e.number = rw n (some_number (tree_refusal tree)) in
    let high : e.number ≤ 7 = rw n (most-number (tree_refusal tree) (at_most 4 (tree_refusal tree) (tree_rows tree) (omega arith) (tree-first tree))) in
    record {
      number-five = n;
      same-work = left.scan_buffers.refused-work low high;
      same-records = left.scan_buffers.refused-records low high;
      same-output = left.output-buffer.refused-output low;
      same-counts = left.counts-buffer.refused-output low;
    }

pub scan_export_short : (tree work records' counts : List ℕ) → length counts < 4 → TooFew tree work records' [] counts (exported_scan gate tree work records' counts)
unfolding exported_scan exported_at
scan_export_short tree work records' counts h =
    too_few tree _ _ work records' [] counts _ (exported_scan_left tree work records' counts) (five 4 tree counts _ h)

module _ (L : Limits) where
  pub check_export_short : (tree baseline work records' output counts : List ℕ) → length counts < 16
      → TooFew tree work records' output counts (exported_check gate L tree baseline work records' output counts)
  unfolding exported_check exported_at
  check_export_short tree baseline work records' output counts h =
      too_few tree _ _ work records' output counts _ (exported_check-left L tree baseline work records' output counts) (five 16 tree counts _ h)

  pub update_export_short : (tree work records' output counts : List ℕ) → length counts < 12
      → TooFew tree work records' output counts (exported_update gate L tree work records' output counts)
  unfolding exported_update exported_at
  update_export_short tree work records' output counts h =
      too_few tree _ _ work records' output counts _ (exported_update-left L tree work records' output counts) (five 12 tree counts _ h)

  pub report_export_short : (tree work records' output counts : List ℕ) → length counts < 8
      → TooFew tree work records' output counts (exported_report gate L tree work records' output counts)
  unfolding exported_report exported_at
  report_export_short tree work records' output counts h =
      too_few tree _ _ work records' output counts _ (exported_report-left L tree work records' output counts) (five 8 tree counts _ h)

-- BLANK

pub blank_export : (text output : List ℕ) → let b = blank_call text output in ((exported_blank text output).number ≡ b.answer.number) × ((exported_blank text output).output ≡ b.output)
unfolding blank_call exported_blank
blank_export text output = (sym (answer-number (blank_number text output) (length text) 0), refl)
