-- `parts::closed_note` meets its contract: a brace that is found is noted.
use Rattle.std.proofs.Common.{refl}
use Rattle.parts.specs.Filling.{note_whole}
use Rattle.parts.proofs.closed_note.Goals as goal

pub returns-in-Brace : goal.returns-in-Brace
returns-in-Brace c = note_whole c.in-Brace.brace c.in-Brace.is refl
