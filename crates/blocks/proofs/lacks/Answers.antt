-- No byte of the block is `x`.
use Rattle.std.proofs.Common.{rules}
use Rattle.blocks.proofs.lacks.Goals as goal

pub returns : goal.returns
returns c = λ e i k. let p = c.passes.ensures e i k in search rules
