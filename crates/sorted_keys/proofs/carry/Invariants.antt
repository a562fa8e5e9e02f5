-- The place that is carried, put in where a loop stands, gives the same places at every turn.
use Rattle.std.proofs.Common.{◌≡◌, ◌∷◌, ◌*◌, length}
use Rattle.sorted_keys.specs.Insert.{insert_at}
use Rattle.sorted_keys.proofs.carry.Given as goal

abbrev pub invariant-loop-k : goal.invariant-loop-k
invariant-loop-k l = (length l.cells ≡ length l.fn.cells) × (insert_at (8 * l.k) l.carried l.cells ≡ l.fn.first ∷ l.fn.cells)

abbrev pub invariant-loop-i : goal.invariant-loop-i
invariant-loop-i l = (length l.cells ≡ length l.fn.cells) × (insert_at l.i l.carried l.cells ≡ l.fn.first ∷ l.fn.cells)
