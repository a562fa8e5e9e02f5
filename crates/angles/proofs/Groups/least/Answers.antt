-- `angles::Groups::least` meets its contract: where no search has begun since the last group all are inside it.
use Rattle.angles.specs.Angles.{above-least}
use Rattle.angles.proofs.Groups.least.Goals as goal

pub returns-in-Some : goal.returns-in-Some
returns-in-Some c i h = above-least c.args.next c.args.at _ c.in-Some.g i c.in-Some.ensures.0 c.in-Some.ensures.1 h
