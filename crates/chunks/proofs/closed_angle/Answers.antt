-- `chunks::closed_angle` meets its contract: a `<` that is open there is one less, and without one a `>` is one more.
use mathlib.Core.Path.{refl}
use native.Mathlib.Omega.{arith}
use Rattle.text_rules.specs.Classes.{angle_close}
use Rattle.chunks.specs.Sums.{behind_angle_close}
use Rattle.chunks.proofs.closed_angle.Goals as goal

pub returns-in-Some : goal.returns-in-Some
returns-in-Some c = behind_angle_close angle_close c.args.c refl _ _ (omega arith) (omega arith)

pub returns-in-None : goal.returns-in-None
returns-in-None c = behind_angle_close angle_close c.args.c refl _ _ (omega arith) (omega arith)
