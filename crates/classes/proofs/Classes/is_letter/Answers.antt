-- The kind of the byte tells it.
use Rattle.classes.proofs.OfKinds.{letter, no-letter}
use Rattle.classes.proofs.Classes.is_letter.Goals as goal

pub returns-in-Letter : goal.returns-in-Letter
returns-in-Letter c = letter c.class.result c.args.b c.class.ensures c.in-Letter.is

pub returns-in_default : goal.returns-in_default
returns-in_default c = no-letter c.class.result c.args.b c.class.ensures c.in_default.not-Letter
