-- `listing::digits` meets its contract: a number has one digit more than its logarithm.
use native.Mathlib.Omega.{arith}
use Rattle.text_rules.proofs.DecimalSteps.{length-one}
use Rattle.listing.proofs.Turns.{digits-exact}
use Rattle.listing.proofs.digits.Goals as goal

pub returns-then-n-lt10 : goal.returns-then-n-lt10
returns-then-n-lt10 c = (omega (arith, length-one c.args.n c.if-n-lt10.true), omega arith, omega arith)

pub returns : goal.returns
returns c =
    let l = c.ilog10.ensures in
    (digits-exact c.ilog10.result c.args.n c.args.n (omega (arith, c.if-n-lt10.false)) l.power_le l.next_power_gt, omega arith, omega (arith, l.bound))
