-- `complexity::complexity_report` meets its contract: it is the call report, with its counts put.
use mathlib.Core.Path.{refl}
use mathlib.Core.List.{[], ◌∷◌}
use native.Mathlib.Omega.{arith}
use Rattle.answers.proofs.NumbersLaws.{number_least}
use Rattle.gate_rules.proofs.ExportLaws.{report_export_short}
use Rattle.gate_rules.specs.Functions.{gate_limits}
use Rattle.complexity.specs.OwnTable.{report-own_export}
use Rattle.complexity.specs.Exported.{ends_as, ends-short}
use Rattle.complexity.proofs.complexity_report.Goals as goal

pub returns-then-counts-lt-REPORT_COUNTS : goal.returns-then-counts-lt-REPORT_COUNTS
returns-then-counts-lt-REPORT_COUNTS c =
    let a = c.args in
    ends-short _ a.tree.now a.work.now a.records.now a.output.now a.counts.now _
    (report_export_short gate_limits a.tree.now a.work.now a.records.now a.output.now a.counts.now c.if-counts-lt-REPORT_COUNTS.true) c.too_few.ensures

pub returns-in-Ok : goal.returns-in-Ok
returns-in-Ok c =
    let a = c.args in
    let u = c.in-Ok.ensures in
    ends_as 8 _ _ _ _ _ _ _ (report-own_export gate_limits a.tree.now a.work.now a.records.now a.output.now a.counts.now c.if-counts-lt-REPORT_COUNTS.false) _ 0 _ _ _ _ _ c.told.ensures.number u.number_is
    (λ i. u.written_is i ∷ u.functions-is i ∷ []) u.work-is u.records_is u.output-is (record { success = λ z. c.told.ensures.counts; refused = λ h. absurd (omega arith) })

pub returns-in-Err : goal.returns-in-Err
returns-in-Err c =
    let a = c.args in
    let u = c.in-Err.ensures in
    let some = number_least c.in-Err.refusal in
    ends_as 8 _ _ _ _ _ _ _ (report-own_export gate_limits a.tree.now a.work.now a.records.now a.output.now a.counts.now c.if-counts-lt-REPORT_COUNTS.false) _ _ _ _ _ _ _ c.from.ensures u.number_is
    (λ i. u.written_is i ∷ u.functions-is i ∷ []) u.work-is u.records_is u.output-is (record { success = λ z. absurd (omega (arith, some, z)); refused = λ h. refl })
