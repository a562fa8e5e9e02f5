-- `gate_check::check_with` meets its contract: 7 is tested before the scan, whose own refusals come before it and behind it, and what is said after
-- the scan is the rest of the table.
use mathlib.Core.Path.{refl, sym}
use native.Mathlib.Omega.{arith}
use lib.ListN.{length-take, take}
use lib.Seq.{length-take-le}
use Rattle.std.proofs.lemmas.Result.{err_from_is_err_and}
use Rattle.answers.proofs.NumbersLaws.{number_least}
use Rattle.gate_rules.specs.Baseline.{entries_of_lines}
use Rattle.functions.specs.Shown.{limits_of}
use Rattle.gate_check.specs.Checks.{long_checks, refused_checks, refuses, scan_count, scan_stands, told_checks}
use Rattle.gate_check.proofs.check_with.Goals as goal

pub returns-then-baseline-gt-MAX_BASELINE : goal.returns-then-baseline-gt-MAX_BASELINE
returns-then-baseline-gt-MAX_BASELINE c =
    let a = c.args in
    let e = c.long_refusal.result in
    long_checks (limits_of a.limits) a.tree.now a.baseline.now a.work.now a.lent.now a.output.now _ _
    (omega (arith, c.if-baseline-gt-MAX_BASELINE.true)) (c.long_refusal.ensures.first, number_least e, c.long_refusal.ensures.most) (refuses e)

pub returns-in_err-count : goal.returns-in_err-count
returns-in_err-count c =
    let p = err_from_is_err_and c.from_residual.result c.from_residual.ensures.1 in
    let a = c.args in
    let e = c.in_err-count.field-0.0 in
    rw (p.1, p.2) (refused_checks (limits_of a.limits) a.tree.now a.baseline.now a.work.now a.lent.now a.output.now c.if-baseline-gt-MAX_BASELINE.false
    _ _ _ c.in_err-count.ensures _ (number_least e) (refuses e))

pub invariant_of-functions : goal.invariant_of-functions
invariant_of-functions c =
    let a = c.args in
    let L = limits_of a.limits in
    let short = c.if-baseline-gt-MAX_BASELINE.false in
    record {
      stand = scan_stands L a.tree.now a.baseline.now a.work.now a.lent.now a.output.now short _ _ _ c.in_ok-count.ensures refl;
      all = scan_count L a.tree.now a.baseline.now a.work.now a.lent.now a.output.now short _ _ _ c.in_ok-count.ensures refl;
    }

pub slice_bounds-read-end : goal.slice_bounds-read-end
slice_bounds-read-end c = sym (length-take-le _ _ c.read_length.ensures.0)

pub invariant_of-read : goal.invariant_of-read
invariant_of-read c = record { short = omega (arith, c.if-baseline-gt-MAX_BASELINE.false, length-take c.read_length.result c.args.baseline.now) }

pub told-requires : goal.told-requires
told-requires c = c.read_length.ensures.1

pub returns : goal.returns
returns c =
    let read = c.read_length in
    let a = c.args in
    told_checks (limits_of a.limits) a.tree.now a.baseline.now a.work.now a.lent.now a.output.now c.if-baseline-gt-MAX_BASELINE.false
    _ _ _ c.in_ok-count.ensures refl _ (entries_of_lines (take read.result a.baseline.now)) _ read.ensures.2 c.told.ensures
