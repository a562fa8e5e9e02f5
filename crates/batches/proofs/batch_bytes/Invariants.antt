-- The bytes of the lines of the keys in front are added up.
use Rattle.std.proofs.Common.{◌≡◌, ◌*◌, ◌≤◌, length, take}
use Rattle.listed_keys.specs.KeyLines.{key_lines}
use Rattle.batches.proofs.batch_bytes.Given as goal

abbrev pub invariant-loop-i : goal.invariant-loop-i
invariant-loop-i l = (l.bytes ≡ length (key_lines (take l.i l.keys.keys))) × (l.bytes ≤ 33554435 * l.i)
