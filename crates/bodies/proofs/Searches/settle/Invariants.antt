-- `bodies::Searches::settle` meets its contract: each turn takes the first off the level's chain. It is behind the boundary, and those that are left
-- in the chain are before it.
use Rattle.std.proofs.Common.{ℕ, ◌≤◌, ◌≡◌, get_or}
use Rattle.bodies.specs.Chain.{Chained}
use Rattle.bodies.specs.Settling.{Behind, Settling}
use Rattle.bodies.specs.Walking.{Fewer}
use Rattle.bodies.proofs.Searches.settle.Given as goal

abbrev pub invariant-loop-head : goal.invariant-loop-head
invariant-loop-head l =
    record {
      most : l.head ≤ 2048;
      first : l.head ≡ get_or l.self.heads l.level 0;
      fewer : Fewer l.initial.self l.self;
      links : l.self.links ≡ l.initial.self.links;
      settling : (at : ℕ → ℕ) → Chained at l.initial.self → Settling at (Behind at l.level l.boundary) l.told l.initial.self.told l.self.told l.self.links l.self.heads;
    }

abbrev pub decreases-loop-head : goal.decreases-loop-head
decreases-loop-head l = l.head
