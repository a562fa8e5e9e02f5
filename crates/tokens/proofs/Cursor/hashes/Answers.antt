-- The hashes of the rest of the text stand inside it.
use Rattle.std.proofs.Common.{◌≡◌, ◌≤◌, ◌<◌, ℕ, true, false, get_or, length, rules}
use Rattle.std.specs.Prelude.{nat_eq}
use Rattle.seek.proofs.Runs.{run_to}
use Rattle.tokens.proofs.Cursor.hashes.Goals as goal

pub returns : goal.returns
returns c =
    let s = c.args.s.now in
    let to = c.end_while.result in
    let e = c.end_while.ensures in
    let passed : (k : ℕ) → c.args.self.at ≤ k → k < to → true ≡ nat_eq (get_or s k 0) 35 = λ k l h. let p = e.passed k l h in search rules in
    let ends : to < length s → false ≡ nat_eq (get_or s to 0) 35 = λ h. let p = e.ends h in search rules in
    record { place = run_to (λ (b : ℕ). nat_eq b 35) s to e.inside ends c.args.self.at e.behind passed; inside = e.inside }
