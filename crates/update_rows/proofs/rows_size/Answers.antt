-- `update_rows::rows_size` meets its contract: what is counted and what is left are all rows.
use mathlib.Core.Path.{◌≡◌, ap, sym, ◌∙◌}
use mathlib.Core.Bool.{true, false}
use native.Mathlib.Omega.{arith}
use lib.ListN.{get_or}
use Rattle.gate_rules.specs.Functions.{over}
use Rattle.gate_rules.specs.Gate.{gate}
use Rattle.gate_rules.specs.Scan.{functions_of}
use Rattle.functions.specs.Shown.{limits_of, no_fun}
use Rattle.functions.proofs.ShortLaws.{short_read}
use Rattle.update_rows.specs.Rows.{lined_length}
use Rattle.update_rows.proofs.Sizes.{all_bytes_lem, all-count, bytes_over, bytes_under, count-over, count_under, none_left, rows_few, rows_short}
use Rattle.update_rows.proofs.rows_size.Goals as goal

pub row_size-requires : goal.row_size-requires
row_size-requires c =
    let fs = c.args.functions in
    short_read c.get-f.result c.loop-k.k fs.stand c.get-f.ensures (omega (arith, fs.all))

pub plus-size-requires-clause-count_fits : goal.plus-size-requires-clause-count_fits
plus-size-requires-clause-count_fits c =
    let fs = c.args.functions in
    let L = limits_of c.args.limits in
    let all = functions_of gate fs.tree.now in
    let k = c.loop-k.k in
    let e = c.get-f.ensures in
    let is_over : over L (get_or all k no_fun) ≡ true = sym (ap (over L) e) ∙ sym c.is_over.ensures ∙ c.if-not-is_over.false in
    omega (arith, c.loop-k.invariant.0, c.row_size.ensures.0, count-over L all k (omega (arith, fs.all)) is_over, rows_few L fs.tree.now fs.records.now fs.stand)

pub plus-size-requires-clause-bytes_fit : goal.plus-size-requires-clause-bytes_fit
plus-size-requires-clause-bytes_fit c =
    let fs = c.args.functions in
    let L = limits_of c.args.limits in
    let all = functions_of gate fs.tree.now in
    let k = c.loop-k.k in
    let e = c.get-f.ensures in
    let is_over : over L (get_or all k no_fun) ≡ true = sym (ap (over L) e) ∙ sym c.is_over.ensures ∙ c.if-not-is_over.false in
    omega (arith, c.loop-k.invariant.1, c.row_size.ensures.1 ∙ ap lined_length e, bytes_over L all k (omega (arith, fs.all)) is_over, rows_short L fs.tree.now fs.records.now fs.stand)

pub loop-k-preserved : goal.loop-k-preserved
loop-k-preserved c =
    let fs = c.args.functions in
    let L = limits_of c.args.limits in
    let all = functions_of gate fs.tree.now in
    let k = c.loop-k.k in
    let e = c.get-f.ensures in
    let is_over : over L (get_or all k no_fun) ≡ true = sym (ap (over L) e) ∙ sym c.is_over.ensures ∙ c.if-not-is_over.false in
    let size = c.row_size.ensures.1 ∙ ap lined_length e in
    let sum = c.plus-size.ensures in
    (omega (arith, c.loop-k.invariant.0, c.row_size.ensures.0, sum.count, count-over L all k (omega (arith, fs.all)) is_over), omega (arith, c.loop-k.invariant.1, size, sum.bytes, bytes_over L all k (omega (arith, fs.all)) is_over))

pub loop-k-preserved-then-not-is_over : goal.loop-k-preserved-then-not-is_over
loop-k-preserved-then-not-is_over c =
    let fs = c.args.functions in
    let L = limits_of c.args.limits in
    let all = functions_of gate fs.tree.now in
    let k = c.loop-k.k in
    let is_under : over L (get_or all k no_fun) ≡ false = sym (ap (over L) c.get-f.ensures) ∙ sym c.is_over.ensures ∙ c.if-not-is_over.true in
    (omega (arith, c.loop-k.invariant.0, count_under L all k (omega (arith, fs.all)) is_under), omega (arith, c.loop-k.invariant.1, bytes_under L all k (omega (arith, fs.all)) is_under))

pub returns : goal.returns
returns c =
    let fs = c.args.functions in
    let L = limits_of c.args.limits in
    let all = functions_of gate fs.tree.now in
    let none = none_left L all c.loop-k.k (omega (arith, fs.all, c.loop-k-test.false)) in
    let few = rows_few L fs.tree.now fs.records.now fs.stand in
    let short = rows_short L fs.tree.now fs.records.now fs.stand in (
      omega (arith, c.loop-k.invariant.0, none.0, all-count L all),
      omega (arith, c.loop-k.invariant.1, none.1, all_bytes_lem L all),
      omega (arith, c.loop-k.invariant.0, none.0),
      omega (arith, c.loop-k.invariant.1, none.1),
    )
