-- `functions::Functions::get` meets its contract: there are as many functions as it holds.
use native.Mathlib.Omega.{arith}
use Rattle.functions.proofs.Functions.get.Goals as goal

pub function_at-requires : goal.function_at-requires
function_at-requires c = (c.args.self.stand, omega (arith, c.args.self.all))
