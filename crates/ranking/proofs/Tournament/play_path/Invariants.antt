-- `ranking::Tournament::play_path` meets its contract: at each turn all matches but that of i are played, and the leaves are as they were.
use Rattle.std.proofs.Common.{◌≡◌, ℕ, ◌≤◌, ◌<◌, get_or}
use Rattle.ranking.specs.Ranks.{PlayedBut}
use Rattle.ranking.proofs.Tournament.play_path.Given as goal

abbrev pub invariant-loop-i : goal.invariant-loop-i
invariant-loop-i g l = record {
  inside : l.i < l.self.functions.count;
  played : PlayedBut g.R.Rank.less g.R.Rank.orders l.self.functions.tree.now l.i l.nodes;
  same : (j : ℕ) → l.self.functions.count ≤ j → get_or l.nodes j 0 ≡ get_or l.initial.nodes j 0;
}

abbrev pub decreases-loop-i : goal.decreases-loop-i
decreases-loop-i g l = l.i
