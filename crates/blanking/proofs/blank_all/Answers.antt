-- `blanking::blank_all` meets its contract: each turn leaves the finished output the same, and at the end of the text that is the output itself.
use mathlib.Core.Path.{◌∙◌, refl, sym}
use native.Mathlib.Omega.{arith}
use borrow.Author.Rules.{rules}
use Rattle.blanking.proofs.Whole.{ended, started}
use Rattle.blanking.proofs.blank_all.Goals as goal

pub loop-here-init : goal.loop-here-init
loop-here-init c = (omega arith, refl, refl)

pub loop-here-preserved : goal.loop-here-preserved
loop-here-preserved c = (omega arith, search rules, c.pass-here.ensures.2 ∙ c.loop-here.invariant.2)

pub returns : goal.returns
returns c = let a = c.args in
    sym (ended a.text.now c.loop-here.output c.loop-here.here.at (omega arith)) ∙ c.loop-here.invariant.2 ∙ started a.text.now a.output.now
