-- `signatures::far::far_end` meets its contract: at each turn the search goes on from a place with so many open inside the bracket. At the end of the text
-- none is closed any more.
use Rattle.std.proofs.Common.{◌-◌, ◌≤◌, ◌≡◌, length}
use Rattle.parts.specs.Told.{sought_from}
use Rattle.signatures.proofs.far.far_end.Given as goal

abbrev pub invariant-loop-at : goal.invariant-loop-at
invariant-loop-at l =
    record {
      inside : l.at ≤ length l.text.text.now;
      inner-most : l.inner ≤ l.at;
      same : sought_from l.text.text.now l.from l.depth ≡ sought_from l.text.text.now l.at l.inner;
    }

abbrev pub decreases-loop-at : goal.decreases-loop-at
decreases-loop-at l = length l.text.text.now - l.at
