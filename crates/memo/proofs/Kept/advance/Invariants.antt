-- `memo::Kept::advance` meets its contract: at each turn all searches have come to a place, the last time to the one that is asked for.
use Prim.Native.Nat.{◌-◌, min}
use mathlib.Core.Path.{◌≡◌}
use Rattle.memo.specs.Memo.{Recalls}
use Rattle.memo.proofs.Kept.advance.Given as goal

abbrev pub invariant-loop-at : goal.invariant-loop-at
invariant-loop-at l = (l.self.at ≡ min l.at l.to) × Recalls l.text.text.now l.self

abbrev pub decreases-loop-at : goal.decreases-loop-at
decreases-loop-at l = l.to - l.at
