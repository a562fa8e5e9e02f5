-- The lines of the keys from a number on remain to be written.
use Rattle.std.proofs.Common.{drop}
use Rattle.listing.specs.Writes.{Remains}
use Rattle.listed_keys.specs.KeyLines.{key_lines}
use Rattle.batches.proofs.write_batch.Given as goal

abbrev pub invariant-loop-i : goal.invariant-loop-i
invariant-loop-i l = Remains (key_lines (drop l.i l.keys.keys)) (key_lines l.keys.keys) l.initial.w l.w
