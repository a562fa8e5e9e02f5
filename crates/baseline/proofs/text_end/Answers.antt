-- Each byte that was passed is above LF.
use Rattle.std.proofs.Common.{rules, ◌<◌, ◌≤◌, ℕ, get_or}
use Rattle.baseline.proofs.text_end.Goals as goal

pub returns : goal.returns
returns c =
    let text : (k : ℕ) → c.args.from ≤ k → k < c.end_while.result → 10 < get_or c.args.s.now k 0 = λ k low high. let p = c.end_while.ensures.passed k low high in search rules in
    (c.end_while.ensures.behind, c.end_while.ensures.inside, text)
