-- `gate_report::report_with` meets its contract: its tests are those of the table, in the table's order, and where the scan has room for all functions
-- the records stand.
use Prim.Native.Nat.{◌≤◌}
use mathlib.Core.Path.{◌≡◌, ap, refl, subst, sym, ◌∙◌}
use native.Mathlib.Omega.{arith}
use lib.ListN.{length}
use Rattle.std.proofs.lemmas.Result.{err_from_is_err_and}
use Rattle.answers.proofs.NumbersLaws.{number_least}
use Rattle.std.proofs.Common.{map}
use Rattle.text_rules.specs.Bytes.{overwritten}
use Rattle.gate_rules.specs.Calls.{room}
use Rattle.gate_rules.specs.Gate.{gate}
use Rattle.gate_rules.specs.ReportCall.{sums_of}
use Rattle.gate_rules.specs.Scan.{functions_of}
use Rattle.gate_rules.specs.Tree.{file_count}
use Rattle.sums.specs.Sums.{stored}
use Rattle.functions.specs.Shown.{Stand, limits_of}
use Rattle.functions.specs.Stands.{stands}
use Rattle.gate_scan.specs.Scans.{filled-length}
use Rattle.gate_report.specs.Reports.{early-entries, early-long, early-unrefused, early_number, listed_reports, many_reports, refused_reports}
use Rattle.gate_report.proofs.report_with.Goals as goal

pub returns-in_err-early : goal.returns-in_err-early
returns-in_err-early c =
    let p = err_from_is_err_and c.from_residual.result c.from_residual.ensures.1 in
    let a = c.args in
    let e = c.in_err-early.field-0.0 in
    rw (p.1, p.2) (refused_reports (limits_of a.limits) a.tree.now a.work.now a.lent.now a.table.now a.output.now _ _ c.in_err-early.ensures (number_least e) (refl, refl, refl))

pub scanned-count-requires : goal.scanned-count-requires
scanned-count-requires c =
    let a = c.args in
    let none : early_number a.tree.now (length a.work.now) (length a.table.now) ≡ 0 = sym (c.in_ok-early.ensures {u = tt}) in
    (early-unrefused a.tree.now (length a.work.now) (length a.table.now) none, early-long a.tree.now (length a.work.now) (length a.table.now) none)

pub returns-then-room-count : goal.returns-then-room-count
returns-then-room-count c =
    let a = c.args in
    let tree = a.tree.now in
    let work = a.work.now in
    let lent = a.lent.now in
    let none : early_number tree (length work) (length a.table.now) ≡ 0 = sym (c.in_ok-early.ensures {u = tt}) in
    let d = c.scanned-count.ensures in
    let size = ap length d.3 ∙ filled-length tree work lent in
    many_reports (limits_of a.limits) tree work lent a.table.now a.output.now none _ _ d.2 d.3 _ (omega (arith, d.0, size, c.room.ensures, c.if-room-count.true)) (refl, refl, refl)

pub invariant_of-functions : goal.invariant_of-functions
invariant_of-functions c =
    let a = c.args in
    let tree = a.tree.now in
    let work = a.work.now in
    let lent = a.lent.now in
    let none : early_number tree (length work) (length a.table.now) ≡ 0 = sym (c.in_ok-early.ensures {u = tt}) in
    let d = c.scanned-count.ensures in
    let size = ap length d.3 ∙ filled-length tree work lent in
    let few : length (functions_of gate tree) ≤ room lent = omega (arith, d.0, size, c.room.ensures, c.if-room-count.false) in
    record { stand = subst (Stand tree) (sym d.3) (stands tree lent (early-unrefused tree (length work) (length a.table.now) none) few); all = d.0 }

pub fill-requires : goal.fill-requires
fill-requires c =
    let a = c.args in
    let none : early_number a.tree.now (length a.work.now) (length a.table.now) ≡ 0 = sym (c.in_ok-early.ensures {u = tt}) in
    omega (arith, ap file_count c.new-totals.ensures, early-entries a.tree.now (length a.work.now) (length a.table.now) none)

pub returns : goal.returns
returns c =
    let a = c.args in
    let tree = a.tree.now in
    let work = a.work.now in
    let lent = a.lent.now in
    let none : early_number tree (length work) (length a.table.now) ≡ 0 = sym (c.in_ok-early.ensures {u = tt}) in
    let d = c.scanned-count.ensures in
    let size = ap length d.3 ∙ filled-length tree work lent in
    let few : length (functions_of gate tree) ≤ room lent = omega (arith, d.0, size, c.room.ensures, c.if-room-count.false) in
    let table = c.fill.ensures ∙ ap (λ t. overwritten (map stored (sums_of gate t)) a.table.now) c.new-totals.ensures in
    listed_reports (limits_of a.limits) tree work lent a.table.now a.output.now none _ _ d.2 d.3 c.listed.result _ table _ c.listed.ensures few
