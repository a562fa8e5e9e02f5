-- The bytes passed and the length asked of the rest make the length asked of the whole.
use Prim.Native.Nat.{◌+◌, ◌≤◌}
use mathlib.Core.Path.{◌≡◌}
use lib.ListN.{drop}
use Rattle.source_rules.specs.Blank.{block_length}
use Rattle.tokens.proofs.Cursor.block_body.Given as goal

abbrev pub invariant-loop-at : goal.invariant-loop-at
invariant-loop-at l = (l.depth ≤ l.at) × (l.at + block_length l.depth l.prev (drop l.at l.s) ≡ l.fn.self.at + block_length 0 0 (drop l.fn.self.at l.s))
