-- `angles::Groups::close` meets its contract: each turn closes the last group, while it has no more brackets than are left to be closed.
use Prim.Native.Nat.{ℕ}
use lib.ListN.{length}
use Rattle.angles.specs.Angles.{Closing}
use Rattle.angles.specs.Groups.{Stands, groups_of}
use Rattle.angles.proofs.Groups.close.Given as goal

abbrev pub invariant-loop-g : goal.invariant-loop-g
invariant-loop-g l = (next at : ℕ) → Stands l.initial.self next at → Closing l.n l.left next at (groups_of l.initial.self) (groups_of l.self)

abbrev pub decreases-loop-g : goal.decreases-loop-g
decreases-loop-g l = length l.self.groups.items
