-- `programs::put_refusal` meets its contract: a number of 32 bits has at most ten digits, so that it and LF fit.
use Rattle.std.proofs.Common.{arith}
use Rattle.text_rules.proofs.DecimalLaws.{decimal-length}
use Rattle.programs.proofs.put_refusal.Goals as goal

pub number-requires : goal.number-requires
number-requires c = rw c.from.ensures (omega (arith, decimal-length c.args.number c.ranges.number.fits))

pub text-requires : goal.text-requires
text-requires c =
    let size = decimal-length c.args.number c.ranges.number.fits in
    omega (arith, rw c.from.ensures at c.number.ensures.place, c.number.ensures.size, size)
