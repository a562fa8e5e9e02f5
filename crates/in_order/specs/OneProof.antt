-- What the order of the keys tells has one proof at most.
use Rattle.std.specs.Prelude.{ℕ, List}
use mathlib.Core.Option.{is_set as Option-set}
use Rattle.std.proofs.Props.{props}
use Rattle.std.specs.Coded.{Unit-prop, ×_prop}
use Rattle.baseline.specs.Ordered.{Unfalling-prop, keys_in}
use Rattle.in_order.specs.Known.{Known}
use Rattle.in_order.specs.Whole.{Whole}
use Rattle.in_order.specs.declared.stale.KeyOrder.{KeyOrder}
use Rattle.in_order.specs.declared.stale.KeyOrder.TheVariants.{AllStale, Rising, Any}

whole-prop : (tree lines : List ℕ) → IsProp (Whole tree lines)
whole-prop tree lines = hlevel (props, Option-set)

pub known_prop : (order : KeyOrder) (tree lines : List ℕ) → IsProp (Known order tree lines)
known_prop AllStale tree lines = ×_prop (Unfalling-prop (keys_in lines)) (whole-prop tree lines)
known_prop Rising tree lines = Unfalling-prop (keys_in lines)
known_prop Any tree lines = Unit-prop
