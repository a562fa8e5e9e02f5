-- `blanking::blank_all` meets its contract: each turn leaves the finished output the same, and at the end of the text that is the output itself.
use Prim.Native.Nat.{◌-◌, ◌≤◌}
use mathlib.Core.Path.{◌≡◌}
use lib.ListN.{length}
use Rattle.blanking.specs.Bare.{finished}
use Rattle.blanking.proofs.blank_all.Given as goal

abbrev pub invariant-loop-here : goal.invariant-loop-here
invariant-loop-here l = (l.here.at ≤ length l.text) × (length l.output ≡ length l.initial.output) × (finished l.text l.output l.here.at l.here.at ≡ finished l.text l.initial.output 0 0)

abbrev pub decreases-loop-here : goal.decreases-loop-here
decreases-loop-here l = length l.text - l.here.at
