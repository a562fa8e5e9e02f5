-- `memo::body_until` meets its contract: at each turn the search goes on from a place with what is counted there.
use Prim.Native.Nat.{◌-◌, ◌≤◌}
use mathlib.Core.Path.{◌≡◌}
use Rattle.flat.specs.Body.{Counted, body_from}
use Rattle.memo.proofs.body_until.Given as goal

abbrev pub invariant-loop-at : goal.invariant-loop-at
invariant-loop-at l = (l.at ≤ l.to) × Counted l.counts l.at × (body_from l.text.text.now l.from l.initial.counts ≡ body_from l.text.text.now l.at l.counts)

abbrev pub decreases-loop-at : goal.decreases-loop-at
decreases-loop-at l = l.to - l.at
