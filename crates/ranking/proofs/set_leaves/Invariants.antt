-- `ranking::set_leaves` meets its contract: at each turn the leaves before k are set.
use Rattle.std.proofs.Common.{◌≡◌, length}
use Rattle.functions.specs.Shown.{limits_of}
use Rattle.ranking.specs.Ranks.{Entered}
use Rattle.ranking.proofs.set_leaves.Given as goal

abbrev pub invariant-loop-k : goal.invariant-loop-k
invariant-loop-k l = (length l.nodes ≡ length l.initial.nodes) × Entered (limits_of l.limits) l.functions.tree.now l.k l.nodes
