-- With a bracket open a search for a body ends at no byte.
use Rattle.std.specs.Prelude.{ℕ, ◌<◌, ◌≡◌, ◌≢◌, false, eqb}
use Rattle.std.proofs.Math.Bool.{and-false}
use Rattle.std.proofs.Common.{arith, ne_eqb}
use Rattle.source_rules.specs.Finding.{flat}

-- with angle brackets open, or square ones, the depth is not 0
pub angle_raised : (angle opened closed : ℕ) → 0 < angle → flat angle opened closed ≡ false
unfolding flat
angle_raised angle opened closed h = rw (ne_eqb angle 0 (λ e. omega arith))

pub squares_raised : (angle opened closed : ℕ) → opened ≢ closed → flat angle opened closed ≡ false
unfolding flat
squares_raised angle opened closed h = rw (ne_eqb opened closed h, and-false (eqb angle 0))
