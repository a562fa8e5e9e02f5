-- `lookup::first_place` meets its contract: the lower place moves behind a key that stands before the one sought; the upper one only ends the search.
use Rattle.baseline.specs.Reads.{key_bytes}
use Rattle.lookup.proofs.Halving.{below_next}
use Rattle.lookup.proofs.first_place.Goals as goal

pub loop-lo-preserved-in-Some : goal.loop-lo-preserved-in-Some
loop-lo-preserved-in-Some c =
    let a = c.args in (
      c.loop-lo.invariant.0,
      below_next a.baseline.now (key_bytes a.sought) c.requires c.loop-lo.lo c.line_start-from.result c.loop-lo.invariant.1 c.line_start-from.ensures.2
          c.in-Some.next c.in-Some.ensures.1,
    )
