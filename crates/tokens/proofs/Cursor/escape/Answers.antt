-- The part searched is the definition's window of ten bytes, cut at the end of the text.
use Rattle.std.proofs.Common.{◌≡◌, ◌≤◌, ◌<◌, ◌+◌, ◌-◌, true, false, get_or, length, take, drop, arith, rules, not, length-drop, length-take, min}
use Rattle.std.specs.Prelude.{nat_eq, ℕ}
use Rattle.text_rules.specs.Search.{bytes_before}
use Rattle.text_rules.proofs.SearchLaws.{run_length}
use Rattle.seek.proofs.Runs.{run_to}
use Rattle.tokens.proofs.Rules.{escape_fits, escape_not, window}
use Rattle.tokens.proofs.Cursor.escape.Goals as goal

pub returns-then-many-window : goal.returns-then-many-window
returns-then-many-window c =
    let s = c.args.s.now in
    let at = c.args.self.at in
    let end = c.min.result in
    let least : end ≡ min (at + 12) (length s) = search rules in
    let w = take (end - (at + 2)) (drop (at + 2) s) in
    let to = c.end_while-many.result in
    let e = c.end_while-many.ensures in
    let passed : (k : ℕ) → 0 ≤ k → k < to → true ≡ not (nat_eq (get_or w k 0) 39) = λ k l h. let p = e.passed k l h in search rules in
    let ends : to < length w → false ≡ not (nat_eq (get_or w to 0) 39) = λ h. let p = e.ends h in search rules in
    let r = run_to (λ (b : ℕ). not (nat_eq b 39)) w to e.inside ends 0 e.behind passed in
    let n : to ≡ bytes_before 39 w = omega (arith, r) in
    escape_not s at w (window s at end least (omega arith)) (omega (arith, n, c.if-many-window.true))

pub returns : goal.returns
returns c =
    let s = c.args.s.now in
    let at = c.args.self.at in
    let end = c.min.result in
    let least : end ≡ min (at + 12) (length s) = search rules in
    let w = take (end - (at + 2)) (drop (at + 2) s) in
    let size : length w ≡ min (end - (at + 2)) (length s - (at + 2)) = simp (length-take, length-drop) in
    let to = c.end_while-many.result in
    let e = c.end_while-many.ensures in
    let passed : (k : ℕ) → 0 ≤ k → k < to → true ≡ not (nat_eq (get_or w k 0) 39) = λ k l h. let p = e.passed k l h in search rules in
    let ends : to < length w → false ≡ not (nat_eq (get_or w to 0) 39) = λ h. let p = e.ends h in search rules in
    let r = run_to (λ (b : ℕ). not (nat_eq b 39)) w to e.inside ends 0 e.behind passed in
    let n : to ≡ bytes_before 39 w = omega (arith, r) in
    let most : bytes_before 39 w ≤ length w = run_length (λ (b : ℕ). not (nat_eq b 39)) w in
    let e = escape_fits s at w (window s at end least (omega arith)) (omega (arith, n, most, c.if-many-window.false)) in
    record { some = omega (arith, e); place = omega (arith, e, n); inside = omega (arith, e, n, most, size, least, c.if-many-window.false) }
