-- `lookup::first_place` meets its contract: the lower place moves behind a key that stands before the one sought; the upper one only ends the search.
use Prim.Native.Nat.{◌-◌, ◌≤◌}
use lib.ListN.{length}
use Rattle.baseline.specs.Reads.{key_bytes}
use Rattle.lookup.specs.Halves.{Below}
use Rattle.lookup.proofs.first_place.Given as goal

abbrev pub invariant-loop-lo : goal.invariant-loop-lo
invariant-loop-lo l = (l.hi ≤ length l.baseline) × Below l.baseline (key_bytes l.sought) l.lo

abbrev pub decreases-loop-lo : goal.decreases-loop-lo
decreases-loop-lo l = l.hi - l.lo
