-- `report_files::next_file` meets its contract: at each turn the best is the next file among those seen.
use mathlib.Core.Path.{sym}
use native.Mathlib.Omega.{arith}
use Rattle.gate_rules.specs.Report.{heavier}
use Rattle.gate_rules.proofs.RowOrders.{heavier_orders}
use Rattle.gate_rules.proofs.TreeLaws.{laid_out}
use Rattle.order.specs.Chosen.{chosen-all, chosen-next, chosen_none}
use Rattle.sums.specs.Known.{known-laid}
use Rattle.report_files.specs.Files.{number_in}
use Rattle.report_files.specs.Weights.{is_listed, listed, listed-count, no_weight}
use Rattle.report_files.proofs.next_file.Goals as goal

pub file_count-k-end-requires : goal.file_count-k-end-requires
file_count-k-end-requires c =
    let t = c.args.totals.now in
    let l = laid_out t.tree.now (known-laid t.tree.now t.of t.known) in
    omega arith

pub loop-k-init : goal.loop-k-init
loop-k-init c =
    let tree = c.args.totals.now.tree.now in
    (tt, chosen_none heavier heavier_orders no_weight (listed tree) is_listed (number_in tree c.args.last) _ (sym (listed-count tree)))

pub loop-k-preserved : goal.loop-k-preserved
loop-k-preserved c =
    let tree = c.args.totals.now.tree.now in
    let b = c.better-best.ensures in (
      b.file,
      chosen-next heavier heavier_orders no_weight (listed tree) is_listed (number_in tree c.args.last) c.loop-k.k (number_in tree c.better-best.result)
          (omega (arith, listed-count tree, c.file_count-k-end.ensures.0)) (b.chosen _ c.loop-k.invariant.1),
    )

pub returns : goal.returns
returns c =
    let tree = c.args.totals.now.tree.now in record {
      file = c.loop-k.invariant.0;
      chosen = chosen-all heavier heavier_orders no_weight (listed tree) is_listed (number_in tree c.args.last) c.loop-k.k (number_in tree c.loop-k.best)
          (omega (arith, c.loop-k-test.false, c.file_count-k-end.ensures.0, listed-count tree)) c.loop-k.invariant.1;
    }
