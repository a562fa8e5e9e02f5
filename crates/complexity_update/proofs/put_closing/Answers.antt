-- `complexity_update::put_closing` meets its contract: a number of 32 bits has at most ten digits, so that the line fits, and each part is put behind the one
-- before.
use Rattle.std.proofs.Common.{arith, refl, rules}
use Rattle.text_rules.proofs.DecimalLaws.{decimal-length}
use Rattle.listing.specs.Writes.{writes_last, writes_then}
use Rattle.programs.specs.Lines.{Starts, line_written}
use Rattle.complexity_update.specs.Answered.{closing}
use Rattle.complexity_update.proofs.put_closing.Goals as goal

pub number-requires : goal.number-requires
number-requires c = omega (arith, decimal-length c.args.recorded c.ranges.recorded.fits)

pub text-requires-2 : goal.text-requires-2
text-requires-2 c = omega (arith, decimal-length c.args.recorded c.ranges.recorded.fits)

pub returns : goal.returns
returns c =
    let w = c.text-2.new.self in
    let line : Starts w.at w.out.now (closing c.args.recorded) = line_written (writes_then c.text.ensures (writes_then c.number.ensures (writes_last c.text-2.ensures))) refl in
    search rules
