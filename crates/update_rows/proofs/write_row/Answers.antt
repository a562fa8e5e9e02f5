-- `update_rows::write_row` meets its contract: the measures are written behind path and name.
use mathlib.Core.Path.{ap, subst, sym}
use native.Mathlib.Omega.{arith}
use lib.ListN.{length, length-append}
use Rattle.functions.specs.Shown.{shown}
use Rattle.listing.specs.Writes.{Writes, writes_then}
use Rattle.update_rows.specs.Rows.{keyed, lined-is, measured}
use Rattle.update_rows.proofs.write_row.Goals as goal

pub write_key-requires : goal.write_key-requires
write_key-requires c =
    let f = c.args.f in
    omega (arith, c.requires, ap length (lined-is (shown f)), length-append (keyed f.path.now f.name.now) (measured f.cyclomatic f.lines))

pub write_measures-requires : goal.write_measures-requires
write_measures-requires c =
    let f = c.args.f in
    let w = c.write_key.ensures in
    omega (arith, c.requires, w.place, w.size, ap length (lined-is (shown f)), length-append (keyed f.path.now f.name.now) (measured f.cyclomatic f.lines))

pub returns : goal.returns
returns c =
    subst (λ l. Writes l c.args.w.now c.write_measures.new.w) (sym (lined-is (shown c.args.f))) (writes_then c.write_key.ensures c.write_measures.ensures)
