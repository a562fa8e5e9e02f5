-- `complexity::complexity_scan` meets its contract: it is the call scan, with its counts put.
use mathlib.Core.Path.{refl}
use mathlib.Core.List.{[], ◌∷◌}
use native.Mathlib.Omega.{arith}
use Rattle.answers.proofs.NumbersLaws.{number_least}
use Rattle.gate_rules.proofs.ExportLaws.{scan_export, scan_export_short}
use Rattle.complexity.specs.Exported.{ends_as, ends-short}
use Rattle.complexity.proofs.complexity_scan.Goals as goal

pub returns-then-counts-lt-SCAN_COUNTS : goal.returns-then-counts-lt-SCAN_COUNTS
returns-then-counts-lt-SCAN_COUNTS c =
    let a = c.args in
    ends-short _ a.tree.now a.work.now a.records.now [] a.counts.now _
    (scan_export_short a.tree.now a.work.now a.records.now a.counts.now c.if-counts-lt-SCAN_COUNTS.true) c.too_few.ensures

pub returns-in-Ok : goal.returns-in-Ok
returns-in-Ok c =
    let a = c.args in
    let u = c.in-Ok.ensures in
    ends_as 4 _ _ _ _ _ _ _ (scan_export a.tree.now a.work.now a.records.now a.counts.now c.if-counts-lt-SCAN_COUNTS.false) _ 0 _ _ _ _ _ c.told.ensures.number u.number_is
    (λ i. u.functions-is i ∷ []) u.work-is u.records_is refl (record { success = λ z. c.told.ensures.counts; refused = λ h. absurd (omega arith) })

pub returns-in-Err : goal.returns-in-Err
returns-in-Err c =
    let a = c.args in
    let u = c.in-Err.ensures in
    let some = number_least c.in-Err.refusal in
    ends_as 4 _ _ _ _ _ _ _ (scan_export a.tree.now a.work.now a.records.now a.counts.now c.if-counts-lt-SCAN_COUNTS.false) _ _ _ _ _ _ _ c.from.ensures u.number_is
    (λ i. u.functions-is i ∷ []) u.work-is u.records_is refl (record { success = λ z. absurd (omega (arith, some, z)); refused = λ h. refl })
