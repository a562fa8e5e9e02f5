-- At each turn the partner sought from `at` on, at the depth reached, is the one sought from the start on. The depth is at most the place, so
-- that it can be counted.
use Rattle.std.proofs.Common.{◌≡◌, ◌≤◌, drop}
use Rattle.source_rules.specs.Brackets.{partner}
use Rattle.search.proofs.partner_before.Given as goal

abbrev pub invariant-loop-at : goal.invariant-loop-at
invariant-loop-at l =
    record {
      shallow : l.inner ≤ l.at;
      same : partner l.opening l.closing l.inner l.at (drop l.at l.s) ≡ partner l.opening l.closing l.depth l.from (drop l.from l.s);
    }
