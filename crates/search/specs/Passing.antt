-- What the unmatched brackets of some bytes tell of a search for a partner that passes them whole.
use Rattle.std.specs.Prelude.{ℕ, ◌+◌, ◌-◌, ◌≤◌, ◌≡◌, List, drop}
use Rattle.source_rules.specs.Brackets.{partner}
use Rattle.search.specs.declared.Unmatched.{Unmatched}

-- a bracket with as many open inside it as are closed there is sought on behind them, with the others and those that are opened
abbrev pub Passes : List ℕ → (opening closing from to : ℕ) → Unmatched → Type 0
Passes s opening closing from to u =
    (depth : ℕ) → u.closed ≤ depth → partner opening closing depth from (drop from s) ≡ partner opening closing (depth - u.closed + u.opened) to (drop to s)
