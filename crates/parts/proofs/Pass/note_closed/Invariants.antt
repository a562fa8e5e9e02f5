-- `parts::Pass::note_closed` meets its contract: the notes that are written down tell what they must.
use Rattle.parts.specs.Filling.{Telling}
use Rattle.parts.proofs.Pass.note_closed.Given as goal

abbrev pub invariant-loop-k : goal.invariant-loop-k
invariant-loop-k l = Telling l.self.part.text.text.now l.self.part.from l.w
