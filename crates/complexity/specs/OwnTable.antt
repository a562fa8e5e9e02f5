-- The export of report brings its own table of sums, and ends as the call does with that table.
use Prim.Native.Nat.{ℕ, zero, suc, ◌≤◌}
use Rattle.std.specs.Prelude.{◌≡◌, refl, List, [], ◌∷◌, length, drop}
use Rattle.std.proofs.Common.{arith, le-ltb}
use Rattle.std.proofs.Math.Seq.{drop_at}
use Rattle.text_rules.specs.Answer.{answer_at}
use Rattle.text_rules.specs.U32.{u32_bytes, u32s_bytes}
use Rattle.gate_rules.specs.Calls.{output_after, records_after, work_after}
use Rattle.gate_rules.proofs.ExportLaws.{EndsAs}
use Rattle.gate_rules.proofs.RefusalLaws.{or_else_twice}
use Rattle.gate_rules.specs.Exports.{export_number, exported_at, exported_report}
use Rattle.gate_rules.specs.Functions.{Limits}
use Rattle.gate_rules.specs.Gate.{gate}
use Rattle.gate_rules.specs.Report.{empty_sums}
use Rattle.gate_rules.specs.ReportCall.{report_call, report_number, report_of}
use Rattle.gate_rules.specs.Scan.{functions_of}
use Rattle.gate_rules.specs.Tree.{tree_refusal}

-- what a call with two counts leaves at a number
module _ (tree text work records output counts : List ℕ) (written functions : ℕ) where
  at : (n : ℕ) → let a = answer_at n written functions in
      EndsAs 8 (a.written ∷ a.functions ∷ []) a.number (work_after gate n tree work) (records_after gate n tree records) (output_after n text output) counts
      (exported_at gate n tree text (written ∷ functions ∷ []) work records output counts)
  unfolding exported_at u32_bytes
  at zero =
      record {
        same_number = refl;
        same-work = refl;
        same-records = refl;
        same-output = refl;
        success-counts = λ z. refl;
        refused-counts = λ p. absurd (omega arith);
        beyond-counts = drop_at (u32s_bytes (written ∷ functions ∷ [])) (drop 8 counts) 8 refl;
      }
  at (suc n) =
      record {
        same_number = refl;
        same-work = refl;
        same-records = refl;
        same-output = refl;
        success-counts = λ z. absurd (omega arith);
        refused-counts = λ p. refl;
        beyond-counts = refl;
      }

module _ (L : Limits) (tree work records output counts : List ℕ) (h : 8 ≤ length counts) where
  own : export_number gate 8 tree counts (report_number gate L tree work records empty_sums output) ≡ report_number gate L tree work records empty_sums output
  unfolding export_number report_number gate
  own = rw (le-ltb (length counts) 8 h) (or_else_twice (tree_refusal tree) _)

  pub report-own_export : let c = report_call gate L tree work records empty_sums output in
      EndsAs 8 (c.answer.written ∷ c.answer.functions ∷ []) c.answer.number c.work c.records c.output counts
      (exported_report gate L tree work records output counts)
  unfolding report_call exported_report
  report-own_export =
      rw own (at tree (report_of gate L tree) work records output counts (length (report_of gate L tree)) (length (functions_of gate tree)) (report_number gate L tree work records empty_sums output))
