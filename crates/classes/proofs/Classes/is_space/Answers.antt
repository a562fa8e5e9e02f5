-- The kind of the byte tells it.
use Rattle.classes.proofs.OfKinds.{space, no-space}
use Rattle.classes.proofs.Classes.is_space.Goals as goal

pub returns-in-Space : goal.returns-in-Space
returns-in-Space c = space c.class.result c.args.b c.class.ensures c.in-Space.is

pub returns-in_default : goal.returns-in_default
returns-in_default c = no-space c.class.result c.args.b c.class.ensures c.in_default.not-Space
