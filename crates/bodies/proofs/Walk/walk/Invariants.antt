-- `bodies::Walk::walk` meets its contract: each turn keeps what is known of the searches.
use Rattle.std.proofs.Common.{◌-◌, length}
use Rattle.bodies.specs.Walking.{Kept}
use Rattle.bodies.proofs.Walk.walk.Given as goal

abbrev pub invariant-loop-self : goal.invariant-loop-self
invariant-loop-self l = Kept l.p.text.text.now l.p.starts.now l.self

abbrev pub decreases-loop-self : goal.decreases-loop-self
decreases-loop-self l = length l.p.text.text.now - l.self.at
