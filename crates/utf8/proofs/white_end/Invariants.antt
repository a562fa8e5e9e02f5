-- Each turn passes one character of white space, so the walk over the rest ends where the walk over the whole does.
use Prim.Native.Nat.{◌-◌, ◌≤◌}
use mathlib.Core.Path.{◌≡◌}
use lib.ListN.{drop, length}
use Rattle.text_rules.specs.WhiteSpace.{white_end}
use Rattle.utf8.proofs.white_end.Given as goal

abbrev pub invariant-loop-n : goal.invariant-loop-n
invariant-loop-n l = (l.at ≤ length l.s) × (white_end l.at 0 (drop l.at l.s) ≡ white_end 0 0 l.s)

abbrev pub decreases-loop-n : goal.decreases-loop-n
decreases-loop-n l = length l.s - l.at
