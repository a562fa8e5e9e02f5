-- `parts::Pass::behind` meets its contract: at each turn the pass comes further.
use Rattle.std.proofs.Common.{◌≡◌, ◌-◌, length}
use Rattle.parts.specs.Filling.{Passed}
use Rattle.parts.proofs.Pass.behind.Given as goal

abbrev pub invariant-loop-at : goal.invariant-loop-at
invariant-loop-at l = record { part : l.self.part ≡ l.fn.self.part; passed : Passed l.at l.self }

abbrev pub decreases-loop-at : goal.decreases-loop-at
decreases-loop-at l = length l.self.part.text.text.now - l.at
