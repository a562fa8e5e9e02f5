-- `bodies::Walk::read_on` meets its contract: the byte and the quiet ones behind it each keep what is known of the searches.
use Rattle.bodies.specs.Quiet.{kept-skipped}
use Rattle.bodies.proofs.Walk.read_on.Goals as goal

pub returns-clause-kept : goal.returns-clause-kept
returns-clause-kept c = kept-skipped _ _ c.step.new.self c.skip.new.self c.step.ensures.kept c.skip.ensures
