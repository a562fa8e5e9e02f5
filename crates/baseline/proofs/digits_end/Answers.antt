-- Each byte that was passed is a digit.
use Rattle.std.proofs.Common.{rules, ◌≡◌, ◌<◌, ◌≤◌, ℕ, true, get_or}
use Rattle.text_rules.specs.Classes.{is_digit}
use Rattle.baseline.proofs.digits_end.Goals as goal

pub returns : goal.returns
unfolding is_digit
returns c =
    let all : (k : ℕ) → c.args.from ≤ k → k < c.end_while.result → is_digit (get_or c.args.s.now k 0) ≡ true = λ k low high. let p = c.end_while.ensures.passed k low high in search rules in
    (c.end_while.ensures.behind, c.end_while.ensures.inside, all)
