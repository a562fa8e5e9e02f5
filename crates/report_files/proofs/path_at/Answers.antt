-- `report_files::path_at` meets its contract: the path is the weight's.
use mathlib.Core.Path.{◌∙◌, ap, sym}
use native.Mathlib.Omega.{arith}
use lib.ListN.{length}
use Rattle.gate_rules.specs.Tree.{path_of}
use Rattle.sums.specs.Known.{known-laid}
use Rattle.report_files.specs.Weights.{path-short, weight-path}
use Rattle.report_files.proofs.path_at.Goals as goal

pub path-requires-clause-laid : goal.path-requires-clause-laid
path-requires-clause-laid c =
    let t = c.args.totals.now in
    known-laid t.tree.now t.of t.known

pub returns : goal.returns
unfolding path_of
returns c =
    let t = c.args.totals.now in
    (c.path.ensures ∙ sym (weight-path t.tree.now c.args.k c.requires), omega (arith, ap length c.path.ensures, path-short t.tree.now t.of t.known c.args.k))
