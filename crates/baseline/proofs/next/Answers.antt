-- No byte that was passed is `x`, and the one where the run ends is.
use Rattle.std.proofs.Common.{rules, ◌≡◌, ◌<◌, ◌≤◌, ◌≢◌, ℕ, length, get_or}
use Rattle.baseline.proofs.Places.{next_is}
use Rattle.baseline.proofs.next.Goals as goal

pub returns : goal.returns
returns c =
    let a = c.args in
    let to = c.end_while.result in
    let none : (k : ℕ) → a.from ≤ k → k < to → get_or a.s.now k 0 ≢ a.x = λ k low high. let p = c.end_while.ensures.passed k low high in search rules in
    let here : to < length a.s.now → get_or a.s.now to 0 ≡ a.x = λ h. let p = c.end_while.ensures.ends h in search rules in
    (next_is a.x a.s.now a.from to c.end_while.ensures.behind c.end_while.ensures.inside none here, c.end_while.ensures.behind, c.end_while.ensures.inside)
