use Rattle.std.proofs.Common.{◌≡◌, ◌≤◌}
use Rattle.blocks.specs.Blocks.{count_from}
use Rattle.blocks.proofs.count.Given as goal

-- as many were counted as are `x` before this byte
abbrev pub invariant-loop-b : goal.invariant-loop-b
invariant-loop-b l = (l.n ≡ count_from l.x l.s l.at l.b-index) × (l.n ≤ l.b-index)
