-- `update_rows::rows_size` meets its contract: what is counted and what is left are all rows.
use Rattle.std.proofs.Common.{◌+◌, ◌≡◌}
use Rattle.gate_rules.specs.Gate.{gate}
use Rattle.gate_rules.specs.Scan.{functions_of}
use Rattle.functions.specs.Shown.{limits_of}
use Rattle.update_rows.proofs.Sizes.{left_bytes, left_count}
use Rattle.update_rows.proofs.rows_size.Given as goal

abbrev pub invariant-loop-k : goal.invariant-loop-k
invariant-loop-k l =
    let L = limits_of l.limits in
    let fs = functions_of gate l.functions.tree.now in
    (l.size.count + left_count L fs l.k ≡ left_count L fs 0) × (l.size.bytes + left_bytes L fs l.k ≡ left_bytes L fs 0)
