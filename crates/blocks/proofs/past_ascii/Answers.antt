-- Each byte that was passed is below 127.
use Rattle.std.proofs.Common.{arith, ltb-true}
use Rattle.blocks.proofs.past_ascii.Goals as goal

pub returns-clause-ascii : goal.returns-clause-ascii
returns-clause-ascii c = λ k low high. let p = c.past_while.ensures.passed k low high in grind (arith, ltb-true)
