-- What the halves keep: the test holds of the number before `from`, and not of `to`.
use Rattle.std.proofs.Common.{◌-◌, ◌≡◌, ℕ, ◌+◌, ◌≤◌, ◌<◌, true, false}
use Rattle.halving.proofs.boundary.Given as goal

abbrev pub invariant-loop-from : goal.invariant-loop-from
invariant-loop-from g l = record {
  order : l.from ≤ l.to;
  inside : l.to ≤ l.n;
  before : (k : ℕ) → k + 1 ≡ l.from → goal.F-post g l.test k true;
  here : l.to < l.n → goal.F-post g l.test l.to false;
}

abbrev pub decreases-loop-from : goal.decreases-loop-from
decreases-loop-from g l = l.to - l.from
