-- `regression_sizes::size_against` meets its contract: what is accepted decides which lines there may be.
use mathlib.Core.Path.{ap, subst, sym}
use native.Mathlib.Omega.{arith}
use Rattle.functions.specs.Shown.{limits_of, shown}
use Rattle.regression_sizes.specs.Lines.{Measured, accepts}
use Rattle.regression_sizes.proofs.size_against.Goals as goal

pub returns-in-None : goal.returns-in-None
returns-in-None c =
    let a = c.args in
    let size = c.new_size.ensures in
    (subst (Measured c.new_size.result) (sym (ap (accepts (limits_of a.limits) (shown a.f)) c.in-None.is)) size.0, omega arith, omega arith)
