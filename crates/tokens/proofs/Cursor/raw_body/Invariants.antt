-- The bytes passed and the length asked of the rest make the length asked of the whole.
use Prim.Native.Nat.{◌+◌}
use mathlib.Core.Path.{◌≡◌}
use lib.ListN.{drop}
use Rattle.source_rules.specs.Blank.{raw_length}
use Rattle.tokens.proofs.Cursor.raw_body.Given as goal

abbrev pub invariant-loop-at : goal.invariant-loop-at
invariant-loop-at l = l.at + raw_length l.n (drop l.at l.s) ≡ l.fn.self.at + raw_length l.n (drop l.fn.self.at l.s)
