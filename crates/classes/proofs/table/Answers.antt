-- The table's rule is one test at each of its 256 entries, which is computed, and so carried to each byte.
use mathlib.Core.Path.{◌≡◌, refl}
use mathlib.Core.List.{List}
use mathlib.Core.Bool.{Bool}
use native.Mathlib.Omega.{arith}
use Prim.Native.Nat.{ℕ}
use lib.Dec.{T, eqb, eqb→eq}
use lib.ListN.{get_or, length}
use Rattle.text_rules.specs.Classes.{class_of}
use Rattle.classes.specs.declared.Kind.{Kind}
use Rattle.classes.specs.declared.Kind.TheVariants.{Other}
use Rattle.classes.specs.Lent.{IsTable, number_of}
use Rattle.classes.proofs.Computed.{at, every}
use Rattle.classes.proofs.table.Goals as goal

right : ℕ → Kind → Bool
unfolding class_of
right k x = eqb (number_of x) (class_of k)

is-table : (t : List Kind) → T (every right 0 t) → length t ≡ 256 → IsTable t
unfolding right
is-table t e n = record { class_at = λ k h. eqb→eq (number_of (get_or t k Other)) (class_of k) (at right Other t e k (omega arith)) }

pub invariant_of-result : goal.invariant_of-result
unfolding right
invariant_of-result c = record { right = is-table _ tt refl }
