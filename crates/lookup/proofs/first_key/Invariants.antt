-- `lookup::first_key` meets its contract: no line that was read has an entry.
use Prim.Native.Nat.{◌≤◌}
use mathlib.Core.Path.{◌≡◌}
use lib.ListN.{drop}
use Rattle.gate_rules.specs.Baseline.{entries_of_lines}
use Rattle.lookup.proofs.first_key.Given as goal

abbrev pub invariant-loop-line : goal.invariant-loop-line
invariant-loop-line l =
    let at = l.line-iterator.at in
    (l.line-iterator.text.now ≡ l.baseline) × (l.from ≤ at) × (entries_of_lines (drop l.from l.baseline) ≡ entries_of_lines (drop at l.baseline))
