-- `report_functions::count` meets its contract: at each turn what is counted, and what is to be counted of the functions left, make the whole.
use mathlib.Core.Path.{ap, subst}
use native.Mathlib.Omega.{arith}
use Rattle.gate_rules.specs.Gate.{gate}
use Rattle.gate_rules.specs.Scan.{functions_of}
use Rattle.gate_rules.proofs.TreeSizes.{tree_branches}
use Rattle.functions.specs.Shown.{limits_of}
use Rattle.functions.proofs.ShortLaws.{short_read}
use Rattle.report_functions.specs.Counting.{Told, branches_room, counting_all, counting_next, counting_none}
use Rattle.report_functions.proofs.count.Goals as goal

pub loop-k-init : goal.loop-k-init
loop-k-init c = counting_none _ _

pub counted-c-requires : goal.counted-c-requires
counted-c-requires c =
    let fs = c.args.functions in
    let n = c.loop-k.invariant in
    let few = fs.stand.few in
    let size = tree_branches fs.tree.now fs.stand.unrefused in
    let room = branches_room (limits_of c.args.limits) (functions_of gate fs.tree.now) c.loop-k.k (omega (arith, fs.all)) c.loop-k.c n in
    (short_read c.get.result c.loop-k.k fs.stand c.get.ensures (omega (arith, fs.all)), omega (arith, n.few, fs.all), omega (arith, n.short, fs.all), omega (arith, room, size, ap (λ g. g.cyclomatic) c.get.ensures))

pub loop-k-preserved : goal.loop-k-preserved
loop-k-preserved c =
    let fs = c.args.functions in
    let L = limits_of c.args.limits in
    let t = subst (λ g. Told L g c.loop-k.c c.counted-c.result) c.get.ensures c.counted-c.ensures.0 in
    counting_next L (functions_of gate fs.tree.now) c.loop-k.k (omega (arith, fs.all)) c.loop-k.c c.loop-k.invariant c.counted-c.result t c.counted-c.ensures.1

pub returns : goal.returns
returns c =
    let fs = c.args.functions in
    counting_all (limits_of c.args.limits) (functions_of gate fs.tree.now) c.loop-k.k c.loop-k.c c.loop-k.invariant (omega (arith, fs.all, c.loop-k-test.false))
