use mathlib.Core.Path.{◌∙◌, sym}
use Rattle.utf8.proofs.Wide.{utf8-end}
use Rattle.utf8.proofs.is_utf8.Goals as goal

pub returns : goal.returns
returns c = sym (utf8-end _ _ c.loop-place-test.false) ∙ c.loop-place.invariant.2
