-- `parts::Pass::behind_before` meets its contract: the pass comes one byte further at each turn.
use Rattle.std.proofs.Common.{◌≡◌}
use Rattle.parts.specs.Filling.{Passed}
use Rattle.parts.proofs.Pass.behind_before.Given as goal

abbrev pub invariant-loop-at : goal.invariant-loop-at
invariant-loop-at l = record { part : l.self.part ≡ l.fn.self.part; passed : Passed l.at l.self }
