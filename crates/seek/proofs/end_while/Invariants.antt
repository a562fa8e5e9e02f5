-- `seek::end_while` meets its contract: each byte before the place passed the test.
use Rattle.std.proofs.Common.{ℕ, true, ◌≤◌, ◌<◌, get_or}
use Rattle.seek.proofs.end_while.Given as goal

abbrev pub invariant-loop-at : goal.invariant-loop-at
invariant-loop-at g l = (k : ℕ) → l.from ≤ k → k < l.at → goal.F-post g l.test (get_or l.s k 0) true
