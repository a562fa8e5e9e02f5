-- `blanking::Cursor::steps` meets its contract: each step leaves the finished output the same.
use mathlib.Core.Path.{◌∙◌, refl}
use native.Mathlib.Omega.{arith}
use borrow.Author.Rules.{rules}
use Rattle.blanking.proofs.Cursor.steps.Goals as goal

pub loop-here-init : goal.loop-here-init
loop-here-init c = (omega arith, refl, refl)

pub loop-here-preserved : goal.loop-here-preserved
loop-here-preserved c = (c.step-here.ensures.1, search rules, c.step-here.ensures.2 ∙ c.loop-here.invariant.2)

pub returns : goal.returns
returns c = (omega arith, omega arith, c.loop-here.invariant.2)
