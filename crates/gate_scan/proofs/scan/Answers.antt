-- `gate_scan::scan` meets its contract: its tests are those of the table, in the table's order.
use Prim.Native.Nat.{◌≤◌}
use mathlib.Core.Path.{refl, ap, sym, ◌∙◌}
use native.Mathlib.Omega.{arith}
use lib.ListN.{length}
use Rattle.std.proofs.lemmas.Result.{err_from_is_err_and}
use Rattle.gate_rules.proofs.BufferLaws.{refusal-most}
use Rattle.answers.specs.Numbers.{number_of}
use Rattle.answers.proofs.NumbersLaws.{number_least}
use Rattle.gate_scan.specs.Scans.{filled-length, many_scans, number-eight, number-five, number-tree, number_zero, refused_scans, scans_as, whole_scans}
use Rattle.gate_scan.proofs.scan.Goals as goal

pub returns-in_err-accept : goal.returns-in_err-accept
returns-in_err-accept c =
    let p = err_from_is_err_and c.from_residual.result c.from_residual.ensures.1 in
    let a = c.args in
    let tree = a.tree.now in
    let e = c.in_err-accept.field-0.0 in
    let some = number_least e in
    let most : number_of e ≤ 7 = omega (arith, c.in_err-accept.ensures, refusal-most tree) in
    rw (p.1, p.2) (refused_scans tree a.work.now a.lent.now _ (number_of e) (number-tree tree a.work.now a.lent.now (number_of e) (sym c.in_err-accept.ensures) some) some most (refl, refl, refl))

pub returns-then-work-tree : goal.returns-then-work-tree
returns-then-work-tree c =
    let a = c.args in
    refused_scans a.tree.now a.work.now a.lent.now _ 5 (number-five a.tree.now a.work.now a.lent.now (sym c.in_ok-accept.ensures) c.if-work-tree.true)
    (omega arith) (omega arith) (refl, refl, refl)

pub returns-then-room-n : goal.returns-then-room-n
returns-then-room-n c =
    let a = c.args in
    let tree = a.tree.now in
    let work = a.work.now in
    let lent = a.lent.now in
    let long : length tree ≤ length work = omega (arith, c.if-work-tree.false) in
    let d = c.scanned-n.ensures in
    let size = ap length d.3 ∙ filled-length tree work lent in
    scans_as _ _ _ _ _ _ d.2 d.3
    (many_scans tree work lent _ (number-eight tree work lent (sym c.in_ok-accept.ensures) long (omega (arith, d.0, size, c.room.ensures, c.if-room-n.true))) (refl, refl, refl))

pub returns : goal.returns
returns c =
    let a = c.args in
    let tree = a.tree.now in
    let work = a.work.now in
    let lent = a.lent.now in
    let long : length tree ≤ length work = omega (arith, c.if-work-tree.false) in
    let d = c.scanned-n.ensures in
    let size = ap length d.3 ∙ filled-length tree work lent in
    scans_as _ _ _ _ _ _ d.2 d.3
    (whole_scans tree work lent _ (number_zero tree work lent (sym c.in_ok-accept.ensures) long (omega (arith, d.0, size, c.room.ensures, c.if-room-n.false))) (refl, refl, d.0))
