-- A line begins where the loop stands, and the keys of the lines from there on are still to be written.
use Rattle.std.proofs.Common.{◌-◌, ◌<◌, length, drop}
use Rattle.baseline.specs.Ordered.{keys_in}
use Rattle.listing.specs.Writes.{Remains}
use Rattle.listed_keys.specs.KeyLines.{key_lines}
use Rattle.listed_keys.specs.Plain.{Begins}
use Rattle.listed_keys.proofs.write_whole.Given as goal

abbrev pub invariant-loop-from : goal.invariant-loop-from
invariant-loop-from l = record {
  begins : l.from < length l.lines → Begins l.lines l.from;
  rest : Remains (key_lines (keys_in (drop l.from l.lines))) (key_lines (keys_in l.lines)) l.initial.w l.w;
}

abbrev pub decreases-loop-from : goal.decreases-loop-from
decreases-loop-from l = length l.lines - l.from
