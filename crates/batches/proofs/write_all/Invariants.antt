-- The lines of the batches stand one behind the other.
use Rattle.std.proofs.Common.{◌+◌, ◌-◌, length}
use Rattle.gate_rules.specs.Baseline.{entries_of_lines}
use Rattle.gate_rules.specs.Gate.{gate}
use Rattle.gate_rules.specs.Scan.{functions_of}
use Rattle.baseline.specs.Reads.{key_text}
use Rattle.listed_keys.specs.KeyLines.{key_lines}
use Rattle.in_order.specs.StaleKeys.{stale_in}
use Rattle.batches.proofs.Writing.{Batches}
use Rattle.batches.proofs.write_all.Given as goal

abbrev pub invariant-loop-keys : goal.invariant-loop-keys
invariant-loop-keys l = Batches (entries_of_lines l.baseline.lines.now) (functions_of gate l.fs.tree.now) l.initial.w l.w (key_text l.last)

abbrev pub decreases-loop-keys : goal.decreases-loop-keys
decreases-loop-keys l = l.initial.w.at + length (key_lines (stale_in l.fs.tree.now l.baseline.lines.now)) - l.w.at
