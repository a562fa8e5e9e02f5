-- `ranking::Tournament::play_all` meets its contract: at each turn the matches from i on are played, and the leaves are as they were.
use Rattle.std.proofs.Common.{◌≡◌, ℕ, ◌≤◌, get_or}
use Rattle.gate_rules.specs.Gate.{gate}
use Rattle.gate_rules.specs.Scan.{functions_of}
use Rattle.functions.specs.Shown.{no_fun}
use Rattle.order.specs.Tournament.{PlayedFrom}
use Rattle.ranking.proofs.Tournament.play_all.Given as goal

abbrev pub invariant-loop-i : goal.invariant-loop-i
invariant-loop-i g l = record {
  played : PlayedFrom g.R.Rank.less g.R.Rank.orders no_fun (functions_of gate l.self.functions.tree.now) l.i l.nodes;
  same : (j : ℕ) → l.self.functions.count ≤ j → get_or l.nodes j 0 ≡ get_or l.initial.nodes j 0;
}
