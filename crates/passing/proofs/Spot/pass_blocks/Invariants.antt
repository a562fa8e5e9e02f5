-- What was passed so far. A line is counted for a byte at most.
use Rattle.std.proofs.Common.{true, ◌+◌, ◌-◌, ◌≡◌, ◌≤◌}
use Rattle.passing.specs.Passing.{Passed}
use Rattle.passing.proofs.Spot.pass_blocks.Given as goal

abbrev pub invariant-loop-at : goal.invariant-loop-at
invariant-loop-at g l = record {
  passed : Passed (λ b. goal.F-post g l.test b true) l.s l.initial.spot.at l.initial.spot.line l.to l.spot;
  line_most : l.spot.line ≤ l.spot.at + 1;
  here : l.spot.at ≡ l.at;
}

abbrev pub decreases-loop-at : goal.decreases-loop-at
decreases-loop-at g l = l.to - l.at
