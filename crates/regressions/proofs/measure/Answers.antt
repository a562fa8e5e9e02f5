-- `regressions::measure` meets its contract: what is counted, and what the functions still to come have, is the whole.
use Prim.Native.Nat.{◌+◌}
use mathlib.Core.Path.{ap}
use native.Mathlib.Omega.{arith}
use lib.ListN.{length}
use Rattle.gate_rules.specs.Baseline.{entries_of_lines}
use Rattle.gate_rules.specs.Gate.{gate}
use Rattle.gate_rules.specs.Scan.{functions_of}
use Rattle.functions.proofs.ShortLaws.{short_read}
use Rattle.functions.specs.Shown.{limits_of, shown}
use Rattle.regression_sizes.specs.Lines.{accepts}
use Rattle.regressions.proofs.Left.{bytes_step, count-step, left, left_end, left_step, none_bytes}
use Rattle.regressions.proofs.measure.Goals as goal

pub size_against-requires : goal.size_against-requires
size_against-requires c =
    let fs = c.args.entries.functions in
    short_read c.get-f.result c.loop-k.k fs.stand c.get-f.ensures (omega (arith, fs.all))

pub plus-all-requires-clause-count_fits : goal.plus-all-requires-clause-count_fits
plus-all-requires-clause-count_fits c =
    let fs = c.args.entries.functions in
    omega (arith, fs.all, fs.stand.few, c.loop-k.invariant.3, c.size_against.ensures.1)

pub plus-all-requires-clause-bytes_fit : goal.plus-all-requires-clause-bytes_fit
plus-all-requires-clause-bytes_fit c =
    let fs = c.args.entries.functions in
    omega (arith, fs.all, fs.stand.few, c.loop-k.invariant.4, c.size_against.ensures.2)

pub loop-k-preserved : goal.loop-k-preserved
loop-k-preserved c =
    let entries = c.args.entries in
    let size = c.size_against.ensures in
    let sum = c.plus-all.ensures in
    let L = limits_of c.args.limits in
    let es = entries_of_lines entries.lines.now in
    let fs = functions_of gate entries.functions.tree.now in
    let k = c.loop-k.k in
    let f = shown c.get-f.result in
    let mine = accepts L f c.accepted-accepted.result in
    let step = left_step L es fs k f c.accepted-accepted.result c.get-f.ensures c.accepted-accepted.ensures (omega (arith, entries.functions.all)) in (
      omega arith,
      omega (arith, c.loop-k.invariant.1, sum.count, size.0.count-is, count-step (left L es fs k) mine (left L es fs (k + 1)) step),
      omega (arith, c.loop-k.invariant.2, sum.bytes, size.0.bytes_is, bytes_step (left L es fs k) mine (left L es fs (k + 1)) step),
      omega (arith, c.loop-k.invariant.3, sum.count, size.1),
      omega (arith, c.loop-k.invariant.4, sum.bytes, size.2),
    )

pub returns-clause-count : goal.returns-clause-count
returns-clause-count c =
    let entries = c.args.entries in
    let fs = functions_of gate entries.functions.tree.now in
    omega (arith, c.loop-k.invariant.1, ap length (left_end (limits_of c.args.limits) (entries_of_lines entries.lines.now) fs c.loop-k.k (omega (arith, entries.functions.all))))

pub returns-clause-bytes : goal.returns-clause-bytes
returns-clause-bytes c =
    let entries = c.args.entries in
    let L = limits_of c.args.limits in
    let es = entries_of_lines entries.lines.now in
    let fs = functions_of gate entries.functions.tree.now in
    omega (arith, c.loop-k.invariant.2, none_bytes (left L es fs c.loop-k.k) (left_end L es fs c.loop-k.k (omega (arith, entries.functions.all))))

pub returns-clause-few : goal.returns-clause-few
returns-clause-few c = let fs = c.args.entries.functions in omega (arith, c.loop-k.invariant.3, fs.all, fs.stand.few)

pub returns-clause-short : goal.returns-clause-short
returns-clause-short c = let fs = c.args.entries.functions in omega (arith, c.loop-k.invariant.4, fs.all, fs.stand.few)
