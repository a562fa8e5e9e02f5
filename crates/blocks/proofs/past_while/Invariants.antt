use Rattle.std.proofs.Common.{ℕ, true, ◌-◌, ◌≤◌, ◌<◌, length, get_or}
use Rattle.blocks.proofs.past_while.Given as goal

-- each byte before the place passed
abbrev pub invariant-loop-at : goal.invariant-loop-at
invariant-loop-at g l = record {
  low : l.from ≤ l.at;
  high : l.at ≤ length l.s;
  passed : (k : ℕ) → l.from ≤ k → k < l.at → goal.F-post g l.test (get_or l.s k 0) true;
}

abbrev pub decreases-loop-at : goal.decreases-loop-at
decreases-loop-at g l = length l.s - l.at
