-- `regressions::write_all` meets its contract: the lines of the functions still to come are still to be put.
use Prim.Native.Nat.{◌+◌}
use native.Mathlib.Omega.{arith}
use Rattle.gate_rules.specs.Baseline.{entries_of_lines}
use Rattle.gate_rules.specs.Check.{listed}
use Rattle.gate_rules.specs.Gate.{gate}
use Rattle.gate_rules.specs.Scan.{functions_of}
use Rattle.functions.specs.Shown.{limits_of, shown}
use Rattle.regression_sizes.specs.Lines.{accepts}
use Rattle.listing.specs.Writes.{remains_all, remains_next, remains_none, remains_room}
use Rattle.regression_sizes.specs.Lines.{nothing_listed}
use Rattle.regressions.proofs.Left.{left, left_end, left_step, listed_step}
use Rattle.regressions.proofs.write_all.Goals as goal

pub loop-k-init : goal.loop-k-init
loop-k-init c = (omega arith, remains_all c.requires)

pub write_against-requires : goal.write_against-requires
write_against-requires c =
    let entries = c.args.entries in
    let L = limits_of c.args.limits in
    let es = entries_of_lines entries.lines.now in
    let fs = functions_of gate entries.functions.tree.now in
    let k = c.loop-k.k in
    let f = shown c.get-f.result in
    let mine = accepts L f c.accepted-accepted.result in
    let step = left_step L es fs k f c.accepted-accepted.result c.get-f.ensures c.accepted-accepted.ensures (omega (arith, entries.functions.all)) in
    remains_room (listed mine) (listed (left L es fs (k + 1))) c.loop-k.invariant.1 (listed_step (left L es fs k) mine (left L es fs (k + 1)) step)

pub loop-k-preserved : goal.loop-k-preserved
loop-k-preserved c =
    let entries = c.args.entries in
    let L = limits_of c.args.limits in
    let es = entries_of_lines entries.lines.now in
    let fs = functions_of gate entries.functions.tree.now in
    let k = c.loop-k.k in
    let f = shown c.get-f.result in
    let mine = accepts L f c.accepted-accepted.result in
    let step = left_step L es fs k f c.accepted-accepted.result c.get-f.ensures c.accepted-accepted.ensures (omega (arith, entries.functions.all)) in
    (omega arith, remains_next (listed (left L es fs (k + 1))) c.loop-k.invariant.1 (listed_step (left L es fs k) mine (left L es fs (k + 1)) step) c.write_against.ensures)

pub returns : goal.returns
returns c =
    let entries = c.args.entries in
    let fs = functions_of gate entries.functions.tree.now in
    remains_none c.loop-k.invariant.1 (nothing_listed (left_end (limits_of c.args.limits) (entries_of_lines entries.lines.now) fs c.loop-k.k (omega (arith, entries.functions.all))))
