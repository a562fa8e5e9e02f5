-- `mean::mean_tenths` meets its contract: the mean is no NaN, its bits are in range, and they stand for it.
use mathlib.Core.Path.{ap, ◌∙◌}
use Rattle.gate_rules.specs.Mean.{tenths_of, mean, mean_tenths}
use Rattle.mean.specs.Range.{mean-good, mean-back}
use Rattle.mean.proofs.mean_tenths.Goals as goal

pub float_to_bits-d : goal.float_to_bits-d
unfolding mean
float_to_bits-d c = (mean-good c.args.total c.args.count c.requires.0 c.requires.1 c.ranges.count.fits).0

pub tenths_of_bits-requires : goal.tenths_of_bits-requires
unfolding mean
tenths_of_bits-requires c = (mean-good c.args.total c.args.count c.requires.0 c.requires.1 c.ranges.count.fits).1

pub returns : goal.returns
unfolding mean mean_tenths
returns c =
    c.tenths_of_bits.ensures ∙ ap tenths_of (mean-back c.args.total c.args.count c.requires.0 c.requires.1 c.ranges.count.fits)
