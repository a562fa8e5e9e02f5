-- `sums::Totals::new` meets its contract: after k records each place holds its file's sum over them.
use Prim.Native.Nat.{◌+◌, ◌<◌}
use mathlib.Core.Path.{◌∙◌}
use native.Mathlib.Omega.{arith}
use lib.ListN.{length}
use Rattle.gate_rules.specs.Gate.{gate}
use Rattle.gate_rules.specs.Scan.{functions_of}
use Rattle.gate_rules.proofs.TreeSizes.{tree-records}
use Rattle.functions.proofs.Read.{inside, number_at}
use Rattle.sums.proofs.Adding.{added-all, added_next, added_none, file-small, part-most, sum-here, sum-most}
use Rattle.sums.proofs.Totals.new.Goals as goal

pub loop-k-init : goal.loop-k-init
loop-k-init c = added_none _

pub overflow_mul-k : goal.overflow_mul-k
overflow_mul-k c =
    let few = c.args.functions.stand.few in
    record { fits = omega (arith, c.args.functions.all) }

pub get-r-requires : goal.get-r-requires
get-r-requires c =
    let fs = c.args.functions in
    inside fs.tree.now fs.records.now fs.stand c.loop-k.k (omega (arith, fs.all))

-- the file and the cyclomatic number that are read, and that the file is one of the table's
pub bounds-of-file : goal.bounds-of-file
bounds-of-file c =
    let fs = c.args.functions in
    let k = c.loop-k.k in
    let h : k < length (functions_of gate fs.tree.now) = omega (arith, fs.all) in
    let file = c.get-r.ensures.file-is ∙ number_at fs.tree.now fs.records.now fs.stand k h 0 _ (omega arith) (omega arith) in
    omega (arith, file, file-small fs.tree.now fs.records.now fs.stand k h)

pub bounds-of-file-in-loop-k : goal.bounds-of-file-in-loop-k
bounds-of-file-in-loop-k c =
    let fs = c.args.functions in
    let k = c.loop-k.k in
    let h : k < length (functions_of gate fs.tree.now) = omega (arith, fs.all) in
    let file = c.get-r.ensures.file-is ∙ number_at fs.tree.now fs.records.now fs.stand k h 0 _ (omega arith) (omega arith) in
    omega (arith, file, file-small fs.tree.now fs.records.now fs.stand k h)

pub overflow_add-of : goal.overflow_add-of
overflow_add-of c =
    let fs = c.args.functions in
    let tree = fs.tree.now in
    let k = c.loop-k.k in
    let h : k < length (functions_of gate tree) = omega (arith, fs.all) in
    let at = number_at tree fs.records.now fs.stand k h in
    let file = c.get-r.ensures.file-is ∙ at 0 _ (omega arith) (omega arith) in
    let branches = c.get-r.ensures.cyclomatic-is ∙ at 5 _ (omega arith) (omega arith) in
    let small : c.get-r.result.file < 1024 = omega (arith, file, file-small tree fs.records.now fs.stand k h) in
    let here = sum-here tree k c.get-r.result.file c.get-r.result.cyclomatic c.loop-k.of c.loop-k.invariant (omega (arith, fs.all, tree-records tree fs.stand.unrefused)) file branches small in
    record { fits = omega (arith, here, part-most tree c.get-r.result.file (k + 1), sum-most tree fs.records.now fs.stand c.get-r.result.file) }

pub loop-k-preserved : goal.loop-k-preserved
loop-k-preserved c =
    let fs = c.args.functions in
    let tree = fs.tree.now in
    let k = c.loop-k.k in
    let h : k < length (functions_of gate tree) = omega (arith, fs.all) in
    let at = number_at tree fs.records.now fs.stand k h in
    let file = c.get-r.ensures.file-is ∙ at 0 _ (omega arith) (omega arith) in
    let branches = c.get-r.ensures.cyclomatic-is ∙ at 5 _ (omega arith) (omega arith) in
    let small : c.get-r.result.file < 1024 = omega (arith, file, file-small tree fs.records.now fs.stand k h) in
    added_next tree k _ _ c.loop-k.of c.loop-k.invariant (omega (arith, fs.all, tree-records tree fs.stand.unrefused)) file branches small

pub invariant_of-result : goal.invariant_of-result
invariant_of-result c =
    let fs = c.args.functions in
    let all = added-all fs.tree.now c.loop-k.k c.loop-k.of c.loop-k.invariant (omega (arith, fs.all, c.loop-k-test.false, tree-records fs.tree.now fs.stand.unrefused)) in
    record { known = record { unrefused = fs.stand.unrefused; sums = all } }
