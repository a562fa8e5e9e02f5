-- The calls for C hosts, on byte slices: the number is returned, and on success the counts are put, each as a u32, into lent bytes.
-- Too few lent bytes for the counts give 5, at 5's place in the order, and leave every buffer unchanged.
use Rattle.std.specs.Prelude.{ℕ, List, [], ◌∷◌, ltb, length}
use Rattle.text_rules.specs.Bytes.{◌or_else◌, ◌when◌}
use Rattle.text_rules.specs.U32.{u32s_bytes}
use Rattle.source_rules.specs.BlankCall.{blank_number, blank_output}
use Rattle.gate_rules.specs.Baseline.{entries}
use Rattle.gate_rules.specs.Calls.{check_answer, check_number, output_after, records_after, scan_number, update_answer, update_number, work_after}
use Rattle.gate_rules.specs.Check.{listing}
use Rattle.gate_rules.specs.Functions.{Limits}
use Rattle.gate_rules.specs.Report.{empty_sums}
use Rattle.gate_rules.specs.ReportCall.{report_number, report_of}
use Rattle.gate_rules.specs.Scan.{Scan, functions_of}
use Rattle.gate_rules.specs.Update.{baseline_text}

-- blanking has no counts: what the call blank returns and leaves
pub record ExportedBlank : Type 0 where
  pub number : ℕ
  pub output : List ℕ

unfoldable pub exported_blank : (text output : List ℕ) → ExportedBlank
exported_blank text output = record { number = blank_number text output; output = blank_output text output }

-- a call with counts: its number, and every buffer afterwards. Scan has no output: the empty list stands there
pub record Exported : Type 0 where
  pub number : ℕ
  pub work : List ℕ
  pub records : List ℕ
  pub output : List ℕ
  pub counts : List ℕ

module _ (S : Scan) where
  -- the call's own number, but for too few bytes for `width` bytes of counts
  unfoldable pub export_number : (width : ℕ) (tree counts : List ℕ) (number : ℕ) → ℕ
  export_number width tree counts number =
      S.refusal tree
      or_else 5 when ltb (length counts) width
      or_else number

  -- what a call leaves at a number: `text` is what it writes to the output, `values` are its counts
  unfoldable pub exported_at : (number : ℕ) (tree text values work records output counts : List ℕ) → Exported
  exported_at number tree text values work records output counts =
      record {
        number = number;
        work = work_after S number tree work;
        records = records_after S number tree records;
        output = output_after number text output;
        counts = output_after number (u32s_bytes values) counts;
      }

  -- scan: the functions
  unfoldable pub exported_scan : (tree work records counts : List ℕ) → Exported
  exported_scan tree work records counts =
      exported_at (export_number 4 tree counts (scan_number S tree work records)) tree [] (length (functions_of S tree) ∷ []) work records [] counts

module _ (S : Scan) (L : Limits) where
  -- check: bytes written, functions, regressions, stale entries
  unfoldable pub exported_check : (tree baseline work records output counts : List ℕ) → Exported
  exported_check tree baseline work records output counts =
      let number : ℕ = export_number S 16 tree counts (check_number S L tree baseline work records output) in
      let a = check_answer L number (entries baseline) (functions_of S tree) in
      exported_at S number tree (listing L (entries baseline) (functions_of S tree))
      (a.written ∷ a.functions ∷ a.regressed ∷ a.stale ∷ []) work records output counts

  -- update: bytes written, functions, functions recorded
  unfoldable pub exported_update : (tree work records output counts : List ℕ) → Exported
  exported_update tree work records output counts =
      let number : ℕ = export_number S 12 tree counts (update_number S L tree work records output) in
      let a = update_answer L number (functions_of S tree) in
      exported_at S number tree (baseline_text L (functions_of S tree)) (a.written ∷ a.functions ∷ a.recorded ∷ []) work records output counts

  -- report: bytes written, functions; its table of sums is its own, large enough for every tree
  unfoldable pub exported_report : (tree work records output counts : List ℕ) → Exported
  exported_report tree work records output counts =
      let number : ℕ = export_number S 8 tree counts (report_number S L tree work records empty_sums output) in
      exported_at S number tree (report_of S L tree) (length (report_of S L tree) ∷ length (functions_of S tree) ∷ []) work records output counts
