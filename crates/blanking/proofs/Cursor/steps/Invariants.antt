-- `blanking::Cursor::steps` meets its contract: each step leaves the finished output the same.
use Prim.Native.Nat.{◌-◌, ◌≤◌}
use mathlib.Core.Path.{◌≡◌}
use lib.ListN.{length}
use Rattle.blanking.specs.Bare.{finished}
use Rattle.blanking.proofs.Cursor.steps.Given as goal

abbrev pub invariant-loop-here : goal.invariant-loop-here
invariant-loop-here l = (l.here.at ≤ length l.text) × (length l.output ≡ length l.initial.output) × (finished l.text l.output l.here.at l.here.at ≡ finished l.text l.initial.output l.initial.here.at l.initial.here.at)

abbrev pub decreases-loop-here : goal.decreases-loop-here
decreases-loop-here l = l.end - l.here.at
