-- `update_rows::write_baseline` meets its contract: the rows are written behind the header.
use native.Mathlib.Omega.{arith}
use Rattle.gate_rules.specs.Gate.{gate}
use Rattle.gate_rules.specs.Scan.{functions_of}
use Rattle.functions.specs.Shown.{limits_of}
use Rattle.update_rows.specs.Rows.{header-length, text-length}
use Rattle.update_rows.proofs.write_baseline.Goals as goal

pub write_header-requires : goal.write_header-requires
write_header-requires c =
    let L = limits_of c.args.limits in
    let fs = functions_of gate c.args.functions.tree.now in
    omega (arith, c.requires, text-length L fs, header-length)

pub write_rows-requires : goal.write_rows-requires
write_rows-requires c =
    let L = limits_of c.args.limits in
    let fs = functions_of gate c.args.functions.tree.now in
    let w = c.write_header.ensures in
    omega (arith, c.requires, text-length L fs, header-length, w.place, w.size)
