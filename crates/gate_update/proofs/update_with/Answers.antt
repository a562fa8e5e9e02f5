-- `gate_update::update_with` meets its contract: the scan's refusals come first, and the output's length is compared before anything is written.
use mathlib.Core.Path.{refl}
use native.Mathlib.Omega.{arith}
use Rattle.std.proofs.lemmas.Result.{err_from_is_err_and}
use Rattle.answers.proofs.NumbersLaws.{number_least}
use Rattle.gate_rules.specs.Gate.{gate}
use Rattle.gate_rules.specs.Scan.{functions_of}
use Rattle.functions.specs.Shown.{limits_of}
use Rattle.update_rows.specs.Rows.{text-length}
use Rattle.gate_update.specs.Updates.{refused_updates, scan_count, scan_stands, short_updates, whole_updates}
use Rattle.gate_update.proofs.update_with.Goals as goal

pub returns-in_err-count : goal.returns-in_err-count
returns-in_err-count c =
    let p = err_from_is_err_and c.from_residual.result c.from_residual.ensures.1 in
    let a = c.args in
    let e = c.in_err-count.field-0.0 in
    rw (p.1, p.2) (refused_updates (limits_of a.limits) a.tree.now a.work.now a.lent.now a.output.now _ _ _ c.in_err-count.ensures _ (number_least e) (refl, refl, refl, refl))

pub invariant_of-functions : goal.invariant_of-functions
invariant_of-functions c =
    let a = c.args in
    let tree = a.tree.now in
    let L = limits_of a.limits in record {
      stand = scan_stands L tree a.work.now a.lent.now a.output.now _ _ _ c.in_ok-count.ensures refl;
      all = scan_count L tree a.work.now a.lent.now a.output.now _ _ _ c.in_ok-count.ensures refl;
    }

pub returns-then-output-size : goal.returns-then-output-size
returns-then-output-size c =
    let a = c.args in
    let tree = a.tree.now in
    let L = limits_of a.limits in
    short_updates L tree a.work.now a.lent.now a.output.now _ _ _ c.in_ok-count.ensures refl _
    (omega (arith, c.if-output-size.true, c.rows_size-size.ensures.1, text-length L (functions_of gate tree))) (refl, refl, refl, refl)

pub put_baseline-written-requires : goal.put_baseline-written-requires
put_baseline-written-requires c =
    let L = limits_of c.args.limits in
    omega (arith, c.if-output-size.false, c.rows_size-size.ensures.1, text-length L (functions_of gate c.args.tree.now))

pub overflow_cast-result : goal.overflow_cast-result
overflow_cast-result c =
    let a = c.args in
    let tree = a.tree.now in
    let L = limits_of a.limits in
    record { fits = omega (arith, c.put_baseline-written.ensures.0, c.rows_size-size.ensures.1, c.rows_size-size.ensures.3, text-length L (functions_of gate tree)) }

pub returns : goal.returns
returns c =
    let a = c.args in
    let tree = a.tree.now in
    let L = limits_of a.limits in
    whole_updates L tree a.work.now a.lent.now a.output.now _ _ _ c.in_ok-count.ensures refl _ _
    (omega (arith, c.if-output-size.false, c.rows_size-size.ensures.1, text-length L (functions_of gate tree))) (
      refl,
      c.put_baseline-written.ensures.0,
      scan_count L tree a.work.now a.lent.now a.output.now _ _ _ c.in_ok-count.ensures refl,
      c.rows_size-size.ensures.0,
    )
    c.put_baseline-written.ensures.1
