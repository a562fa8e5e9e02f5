-- `report_files::sum_at` meets its contract: the sum is the weight's.
use native.Mathlib.Omega.{arith}
use Rattle.sums.specs.Known.{known-few}
use Rattle.report_files.specs.Weights.{sum-at}
use Rattle.report_files.proofs.sum_at.Goals as goal

pub offset_bounds-totals-k : goal.offset_bounds-totals-k
offset_bounds-totals-k c =
    let t = c.args.totals.now in
    record { fits = omega (arith, c.requires, known-few t.tree.now t.of t.known) }

pub bounds-totals-k : goal.bounds-totals-k
bounds-totals-k c =
    let t = c.args.totals.now in
    omega (arith, c.requires, known-few t.tree.now t.of t.known)

pub returns : goal.returns
returns c =
    let t = c.args.totals.now in
    sum-at t.tree.now t.of t.known c.args.k c.requires
