-- `bodies::Walk::end_level` meets its contract: the searches at depth 0 are those of the walk's level behind the boundary. There are none at a level
-- that is not kept.
use Rattle.bodies.specs.Settling.{settled-none}
use Rattle.bodies.proofs.Walk.end_level.Goals as goal

pub returns-in_default-clause-settled : goal.returns-in_default-clause-settled
returns-in_default-clause-settled c at h =
    settled-none at _ _ _ _ _ h (λ i p e. c.in_default.ensures (at i) (h.inside i p, e.1))
