-- What is printed, case by case: the tree is too long, or the call report refuses, or it lists.
use Rattle.std.specs.Prelude.{ℕ, zero, suc, ◌≤◌, ◌<◌, ◌≡◌, List, [], ◌∷◌, ◌++◌, drop}
use Rattle.std.proofs.Math.Path.{ap, ap₂, sym}
use Rattle.std.proofs.Common.{◌∙◌, arith, length-append, length-take-le, le-ltb}
use Rattle.std.proofs.Math.ListN.{length, take}
use Rattle.text_rules.specs.Answer.{Answer, answer_at}
use Rattle.text_rules.specs.Decimal.{decimal, digits}
use Rattle.gate_rules.specs.Calls.{output_after}
use Rattle.gate_rules.specs.Functions.{gate_limits}
use Rattle.gate_rules.specs.Gate.{gate}
use Rattle.gate_rules.proofs.ProgramLaws.{report_longer}
use Rattle.gate_rules.specs.Programs.{lent, printed, program_bytes, report_program}
use Rattle.gate_rules.specs.Report.{empty_sums}
use Rattle.gate_rules.specs.ReportCall.{Reported, report_call, report_number, report_of}
use Rattle.gate_rules.specs.Scan.{functions_of}
use Rattle.gate_report.specs.Reports.{ReportsAlone}
use Rattle.programs.specs.Lines.{Starts, refused-line}

-- the tree is too long
pub long-printed : (tree : List ℕ) → 65536 < length tree → decimal 1 ++ 10 ∷ [] ≡ report_program tree
unfolding decimal digits
long-printed tree long = sym (report_longer tree long)

-- the listing lies in the output
inside : (n functions : ℕ) (text output : List ℕ) → (answer_at n (length text) functions).written ≤ length (output_after n text output)
inside zero functions text output = omega (arith, length-append text (drop (length text) output))
inside (suc n) functions text output = omega arith

module _ (tree work records output : List ℕ) where
  -- the call, with a table of its own
  call : Reported
  call = report_call gate gate_limits tree work records empty_sums output

  call-inside : call.answer.written ≤ length call.output
  unfolding call report_call
  call-inside = inside (report_number gate gate_limits tree work records empty_sums output) (length (functions_of gate tree)) (report_of gate gate_limits tree) output

  module _ (work-zeros : work ≡ lent) (records-zeros : records ≡ lent) (output-zeros : output ≡ lent) (short : length tree ≤ program_bytes) where
    printed_by : Reported → List ℕ
    printed_by c = printed c.answer.number (take c.answer.written c.output)

    call_same : call ≡ report_call gate gate_limits tree lent lent empty_sums lent
    unfolding call
    call_same = λ i. report_call gate gate_limits tree (work-zeros i) (records-zeros i) empty_sums (output-zeros i)

    call-printed : printed call.answer.number (take call.answer.written call.output) ≡ report_program tree
    unfolding report_program printed_by
    call-printed = ap printed_by call_same ∙ rw (le-ltb program_bytes (length tree) short)

    module _ (r : Answer) (w l o : List ℕ) (reports : ReportsAlone r (report_call gate gate_limits tree work records empty_sums output) w l o) where
      -- the call refuses
      pub refused-printed : 1 ≤ r.number → decimal r.number ++ 10 ∷ [] ≡ report_program tree
      unfolding call
      refused-printed h =
          refused-line r.number (take call.answer.written call.output) h
          ∙ ap (λ n. printed n (take call.answer.written call.output)) reports.number_is
          ∙ call-printed

      -- the call lists
      pub listing-printed : r.number ≡ 0 → Starts r.written o (report_program tree)
      unfolding call
      listing-printed e =
          let within : r.written ≤ length o = omega (arith, reports.written_is, ap length reports.output-is, call-inside) in (
            (within, sym (length-take-le r.written o within)),
            ap₂ take reports.written_is reports.output-is
                ∙ ap (λ m. printed m (take call.answer.written call.output)) (sym e ∙ reports.number_is)
                ∙ call-printed,
          )
