-- The bytes passed by blocks and those behind them are those before the first LF.
use Rattle.std.proofs.Common.{◌≡◌, ◌≤◌, ◌<◌, ℕ, true, false, not, arith, get_or, length, rules}
use Rattle.std.specs.Prelude.{nat_eq}
use Rattle.seek.proofs.Runs.{run_to}
use Rattle.tokens.proofs.Cursor.line_body.Goals as goal

pub returns : goal.returns
returns c =
    let s = c.args.s.now in
    let to = c.end_while.result in
    let e = c.end_while.ensures in
    let passed : (k : ℕ) → c.past-from.result ≤ k → k < to → true ≡ not (nat_eq (get_or s k 0) 10) = λ k l h. let p = e.passed k l h in search rules in
    let ends : to < length s → false ≡ not (nat_eq (get_or s to 0) 10) = λ h. let p = e.ends h in search rules in
    let r = run_to (λ (b : ℕ). not (nat_eq b 10)) s to e.inside ends c.past-from.result e.behind passed in
    record { place = omega (arith, r, c.past-from.ensures.1); inside = e.inside }
