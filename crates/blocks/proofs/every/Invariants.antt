use Rattle.std.proofs.Common.{◌≡◌, ℕ, true, ◌<◌, get_or}
use Rattle.blocks.proofs.every.Given as goal

-- while the flag holds, each byte before this one passed
abbrev pub invariant-loop-b : goal.invariant-loop-b
invariant-loop-b g l = l.all ≡ true → (k : ℕ) → k < l.b-index → goal.F-post g l.test (get_or l.block k 0) true
