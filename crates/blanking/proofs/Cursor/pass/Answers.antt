-- `blanking::Cursor::pass` meets its contract: what is copied and what the steps write leave the finished output the same. It goes on, since either
-- bytes are copied or a byte is left for a step.
use mathlib.Core.Path.{◌∙◌}
use native.Mathlib.Omega.{arith}
use Rattle.blanking.proofs.Cursor.pass.Goals as goal

pub returns : goal.returns
returns c = (omega (arith, c.steps.ensures.0, c.min.ensures, c.plain_end-to.ensures.0), c.steps.ensures.1, c.steps.ensures.2 ∙ c.copy.ensures)
