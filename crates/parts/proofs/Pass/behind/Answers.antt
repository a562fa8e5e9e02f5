-- `parts::Pass::behind` meets its contract: those that wait at the end of the text have no partner.
use Rattle.std.proofs.Common.{inr}
use Rattle.parts.specs.Filling.{passed_unmet}
use Rattle.parts.proofs.Pass.behind.Goals as goal

pub returns-after-loop-at-clause-unmet : goal.returns-after-loop-at-clause-unmet
returns-after-loop-at-clause-unmet c = passed_unmet c.loop-at.at c.loop-at.self c.loop-at.invariant.passed (inr c.loop-at-test.false)
