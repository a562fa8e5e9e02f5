-- Each turn passes one piece, so the count over the rest is the count over the whole.
use Prim.Native.Nat.{◌+◌, ◌-◌, ◌≤◌}
use mathlib.Core.Path.{◌≡◌}
use lib.ListN.{drop, length}
use Rattle.source_rules.specs.Measures.{cyclomatic_from, cyclomatic_of}
use Rattle.measures.proofs.cyclomatic.Given as goal

abbrev pub invariant-loop-at : goal.invariant-loop-at
invariant-loop-at l = (l.at ≤ length l.body) × (l.n ≤ l.at + 1) × (cyclomatic_from l.n 0 (drop l.at l.body) ≡ cyclomatic_of l.body)

abbrev pub decreases-loop-at : goal.decreases-loop-at
decreases-loop-at l = length l.body - l.at
