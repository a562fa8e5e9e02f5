-- `search::word_end` meets its contract: it ends at the first byte that is of no word.
use Rattle.std.proofs.Common.{◌≡◌, ◌≤◌, ◌<◌, ℕ, true, false, get_or, length, rules}
use Rattle.text_rules.specs.Classes.{is_word}
use Rattle.seek.proofs.Runs.{run_to}
use Rattle.search.proofs.word_end.Goals as goal

pub returns-clause-end : goal.returns-clause-end
returns-clause-end c =
    let s = c.args.s.now in
    let to = c.end_while.result in
    let e = c.end_while.ensures in
    let passed : (k : ℕ) → c.args.from ≤ k → k < to → true ≡ is_word (get_or s k 0) = λ k l h. let p = e.passed k l h in search rules in
    let ends : to < length s → false ≡ is_word (get_or s to 0) = λ h. let p = e.ends h in search rules in
    run_to is_word s to e.inside ends c.args.from e.behind passed
