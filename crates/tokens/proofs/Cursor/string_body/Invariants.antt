-- The bytes passed and the length asked of the rest make the length asked of the whole.
use Prim.Native.Nat.{◌+◌}
use mathlib.Core.Path.{◌≡◌}
use mathlib.Core.Bool.{false}
use lib.ListN.{drop}
use Rattle.source_rules.specs.Blank.{string_length}
use Rattle.tokens.proofs.Cursor.string_body.Given as goal

abbrev pub invariant-loop-at : goal.invariant-loop-at
invariant-loop-at l = l.at + string_length l.skip (drop l.at l.s) ≡ l.fn.self.at + string_length false (drop l.fn.self.at l.s)
