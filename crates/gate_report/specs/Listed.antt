-- What the listing of a scanned tree answers and leaves.
use Rattle.std.specs.Prelude.{ℕ, ◌≤◌, ◌<◌, ◌≡◌, Result, List, ltb, length}
use Rattle.std.proofs.Common.{le-ltb, lt-ltb}
use Rattle.text_rules.specs.Answer.{Answer, answer_at}
use Rattle.text_rules.specs.Bytes.{◌when◌, overwritten}
use Rattle.gate_rules.specs.Calls.{output_after}
use Rattle.gate_rules.specs.Functions.{Limits}
use Rattle.gate_rules.specs.Gate.{gate}
use Rattle.gate_rules.specs.ReportCall.{report_of}
use Rattle.gate_rules.specs.Scan.{functions_of}
use Rattle.answers.specs.Numbers.{answer_by}
use Rattle.answers.specs.declared.Refusal.{Refusal}
use Rattle.gate_report.specs.declared.ReportCounts.{ReportCounts}

-- what report hands back, as the record of the definitions
abbrev pub report_told : Result ReportCounts Refusal → Answer
report_told = answer_by (λ c. c.written) (λ c. c.functions)

module _ (L : Limits) (tree output : List ℕ) where
  -- 9 where the output is too short
  abbrev pub late_number : ℕ
  late_number = 9 when ltb (length output) (length (report_of gate L tree))

  pub record Listed (r : Result ReportCounts Refusal) (left : List ℕ) : Type 0 where
    pub number_is : (report_told r).number ≡ late_number
    pub written_is : (report_told r).written ≡ (answer_at late_number (length (report_of gate L tree)) (length (functions_of gate tree))).written
    pub functions-is : (report_told r).functions ≡ (answer_at late_number (length (report_of gate L tree)) (length (functions_of gate tree))).functions
    pub output-is : left ≡ output_after late_number (report_of gate L tree) output

  pub listed-short : (r : Result ReportCounts Refusal) → length output < length (report_of gate L tree)
      → ((report_told r).number ≡ 9) × ((report_told r).written ≡ 0) × ((report_told r).functions ≡ 0) → Listed r output
  listed-short r h q =
      let e = lt-ltb (length output) (length (report_of gate L tree)) h in
      record { number_is = rw e q.0; written_is = rw e q.1; functions-is = rw e q.2; output-is = rw e }

  pub listed-whole : (r : Result ReportCounts Refusal) (left : List ℕ) → length (report_of gate L tree) ≤ length output
      → ((report_told r).number ≡ 0) × ((report_told r).written ≡ length (report_of gate L tree)) × ((report_told r).functions ≡ length (functions_of gate tree))
      → left ≡ overwritten (report_of gate L tree) output → Listed r left
  listed-whole r left h q o =
      let e = le-ltb (length output) (length (report_of gate L tree)) h in
      record { number_is = rw e q.0; written_is = rw e q.1; functions-is = rw e q.2; output-is = rw e o }
