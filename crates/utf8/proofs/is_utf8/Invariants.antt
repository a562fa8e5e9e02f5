-- The rest of the text is well formed exactly if the whole is, since each turn passes whole characters.
use Prim.Native.Nat.{◌-◌, ◌≤◌}
use mathlib.Core.Path.{◌≡◌}
use lib.ListN.{drop, length}
use Rattle.text_rules.specs.Utf8.{is_utf8}
use Rattle.utf8.proofs.is_utf8.Given as goal

abbrev pub invariant-loop-place : goal.invariant-loop-place
invariant-loop-place l = (l.place.asked ≤ l.place.at) × (l.place.at ≤ length l.s) × (is_utf8 (drop l.place.at l.s) ≡ is_utf8 l.s)

abbrev pub decreases-loop-place : goal.decreases-loop-place
decreases-loop-place l = length l.s - l.place.at
