-- The groups of angle brackets that are open, as a struct has them.
use Rattle.std.specs.Prelude.{ℕ, ◌+◌, ◌≢◌, List, reverse}
use Rattle.std.proofs.Common.{arith}
use Rattle.source_rules.specs.Finding.{angle_after}
use Rattle.angles.specs.Angles.{Stack, Turned, above, angle_other, boundary_of, turned_same}
use Rattle.angles.specs.declared.Group.{Group}
use Rattle.angles.specs.declared.Groups.{Groups}

-- the groups, the last one first
abbrev pub groups_of : Groups → List Group
groups_of g = reverse g.groups.items

abbrev pub Stands : Groups → (next at : ℕ) → Type 0
Stands g next at = Stack (groups_of g) next at

abbrev pub Turns : (f : ℕ → ℕ) → (next at : ℕ) → (g h : Groups) → Type 0
Turns f next at g h = Turned f next at (groups_of g) (groups_of h)

abbrev pub above_in : Groups → ℕ → ℕ
above_in g i = above (groups_of g) i

abbrev pub boundary_in : Groups → ℕ
boundary_in g = boundary_of (groups_of g)

-- a byte that is no angle bracket
pub passes_other : (b next at : ℕ) (g : Groups) → Stands g next at → b ≢ 60 → b ≢ 62 → Turns (angle_after b) next (at + 1) g g
passes_other b next at g s o c = turned_same next at (groups_of g) s (angle_after b) (at + 1) (omega arith) (angle_other b o c)
