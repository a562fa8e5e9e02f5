-- `parts::Pass::inside` meets its contract: at each turn the pass is inside the part.
use Rattle.std.proofs.Common.{◌≡◌}
use Rattle.parts.specs.Filling.{Within}
use Rattle.parts.proofs.Pass.inside.Given as goal

abbrev pub invariant-loop-at : goal.invariant-loop-at
invariant-loop-at l = record { part : l.self.part ≡ l.fn.self.part; within : Within l.at l.self }
