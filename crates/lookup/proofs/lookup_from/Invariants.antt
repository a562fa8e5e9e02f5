-- `lookup::lookup_from` meets its contract: what is found in the lines behind, then what is found in the rest, is what is found in all.
use mathlib.Core.Path.{◌≡◌}
use lib.ListN.{drop}
use Rattle.gate_rules.specs.Baseline.{entries_of_lines, lookup}
use Rattle.baseline.specs.Ordered.{Unfalling, keys_in}
use Rattle.baseline.specs.Reads.{accepted_by, key_bytes}
use Rattle.lookup.proofs.Finds.{found_from}
use Rattle.lookup.proofs.lookup_from.Given as goal

abbrev pub invariant-loop-line : goal.invariant-loop-line
invariant-loop-line l =
    let s = l.baseline in
    let at = l.line-iterator.at in
    (l.line-iterator.text.now ≡ s)
    × (found_from l.found (key_bytes l.sought) s at ≡ accepted_by (lookup (key_bytes l.sought) (entries_of_lines s)))
    × Unfalling (keys_in (drop at s))
