-- `programs::read` meets its contract: what it counts lies in the buffer, and each turn of its loop reads a byte or is the last.
use Rattle.std.specs.Prelude.{◌-◌, ◌≤◌, ◌≡◌, length}
use Rattle.programs.proofs.read.Given as goal

abbrev pub invariant-loop-at : goal.invariant-loop-at
invariant-loop-at g l = (length l.buf ≡ length l.initial.buf) × (l.at ≤ length l.buf)

abbrev pub decreases-loop-at : goal.decreases-loop-at
decreases-loop-at g l = length l.buf - l.at
