-- `chunks::sums_after` meets its contract: each byte has its law.
use native.Mathlib.Omega.{arith}
use Rattle.std.proofs.Common.{add-zero}
use Rattle.chunks.specs.Sums.{behind_angle_open, behind_plain, behind_square_close, behind_square_open}
use Rattle.chunks.proofs.sums_after.Goals as goal

pub returns-in-60 : goal.returns-in-60
returns-in-60 c = simp add-zero at (behind_angle_open c.args.b c.args.c c.in-60.is)

pub returns-in-91 : goal.returns-in-91
returns-in-91 c = simp add-zero at (behind_square_open c.args.b c.args.c c.in-91.is)

pub returns-in-93 : goal.returns-in-93
returns-in-93 c = simp add-zero at (behind_square_close c.args.b c.args.c c.in-93.is)

pub returns-in_default : goal.returns-in_default
returns-in_default c = behind_plain c.args.b c.args.c (λ e. grind arith, λ e. grind arith, λ e. omega arith, λ e. omega arith, λ e. omega arith, λ e. omega arith)
