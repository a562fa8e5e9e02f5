-- `ranking::Ranking::new` meets its contract: the leaves hold the functions over the limits, and the matches leave them as they are.
use native.Mathlib.Omega.{arith}
use Rattle.ranking.proofs.Turns.{leaves_small, taking_none}
use Rattle.ranking.proofs.Ranking.new.Goals as goal

pub play_all-requires : goal.play_all-requires
play_all-requires g c =
    let a = c.args in
    let few = a.functions.stand.few in
    (omega (arith, a.functions.all, c.set_leaves.ensures.0), leaves_small g.R.Rank.less g.R.Rank.orders record { rank = a.rank; functions = a.functions } a.limits c.set_leaves.new.nodes c.set_leaves.ensures.1)

pub invariant_of-result : goal.invariant_of-result
invariant_of-result g c =
    let a = c.args in
    taking_none g.R.Rank.less g.R.Rank.orders record { rank = a.rank; functions = a.functions } a.limits c.set_leaves.new.nodes c.set_leaves.ensures.1 c.play_all.new.nodes c.play_all.ensures.0 c.play_all.ensures.1
