-- As many keys were taken as are counted, and their lines have the bytes that were added up.
use Rattle.std.proofs.Common.{◌≡◌, ◌-◌, length, take}
use Rattle.gate_rules.specs.Baseline.{entries_of_lines}
use Rattle.gate_rules.specs.Gate.{gate}
use Rattle.gate_rules.specs.Scan.{functions_of}
use Rattle.baseline.specs.Reads.{key_text}
use Rattle.in_order.specs.StaleKeys.{stale_in}
use Rattle.listed_keys.specs.KeyLines.{key_lines}
use Rattle.batches.proofs.Taking.{Reached}
use Rattle.batches.proofs.measure.Given as goal

abbrev pub invariant-loop-keys : goal.invariant-loop-keys
invariant-loop-keys l = record {
  reached : Reached (entries_of_lines l.baseline.lines.now) (functions_of gate l.fs.tree.now) (key_text l.last) l.size.count;
  bytes : l.size.bytes ≡ length (key_lines (take l.size.count (stale_in l.fs.tree.now l.baseline.lines.now)));
}

abbrev pub decreases-loop-keys : goal.decreases-loop-keys
decreases-loop-keys l = length (stale_in l.fs.tree.now l.baseline.lines.now) - l.size.count
