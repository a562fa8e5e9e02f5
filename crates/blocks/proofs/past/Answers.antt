-- No byte that was passed is `x`.
use Rattle.std.proofs.Common.{arith, rules, ◌<◌, ◌≤◌, ◌≢◌, ℕ, get_or}
use Rattle.blocks.proofs.Pieces.{passed_by}
use Rattle.blocks.proofs.past.Goals as goal

pub returns : goal.returns
returns c =
    let s = c.args.s.now in
    let none : (k : ℕ) → c.args.from ≤ k → k < c.past_while.result → get_or s k 0 ≢ c.args.x = λ k low high. let p = c.past_while.ensures.passed k low high in search rules in
    (omega arith, passed_by s c.args.x c.args.from c.past_while.result c.past_while.ensures.low c.past_while.ensures.high none, omega arith)
