-- `bodies::Searches::finish` meets its contract: what is told of a search stays, or was that it is pending.
use Rattle.bodies.specs.Walking.{Rest}
use Rattle.bodies.proofs.Searches.finish.Given as goal

abbrev pub invariant-loop-told : goal.invariant-loop-told
invariant-loop-told l = Rest l.initial.told-items l.told-items
