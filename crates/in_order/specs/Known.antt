-- What the order of a baseline's keys tells.
use Rattle.std.specs.Prelude.{ℕ, ◌≡◌, Bool, true, false, List}
use Rattle.std.proofs.Common.{refl, subst, sym}
use Rattle.baseline.specs.Ordered.{Unfalling, keys_in}
use Rattle.in_order.specs.Whole.{Whole}
use Rattle.in_order.specs.declared.stale.KeyOrder.{KeyOrder}
use Rattle.in_order.specs.declared.stale.KeyOrder.TheVariants.{AllStale, Rising, Any}

-- where no key falls, and where all keys are stale as well, for a tree and the lines of a baseline
abbrev pub Known : KeyOrder → (tree lines : List ℕ) → Type 0
Known AllStale tree lines = Unfalling (keys_in lines) × Whole tree lines
Known Rising tree lines = Unfalling (keys_in lines)
Known Any tree lines = Unit {0}

-- where no key falls, by whether the baseline is stale as a whole
abbrev pub order_by : Bool → KeyOrder
order_by true = AllStale
order_by false = Rising

pub known_of : (tree lines : List ℕ) (whole : Bool) (order : KeyOrder) → order ≡ order_by whole → Unfalling (keys_in lines) → (whole ≡ true → Whole tree lines) → Known order tree lines
known_of tree lines true order e u w = subst (λ o. Known o tree lines) (sym e) (u, w refl)
known_of tree lines false order e u w = subst (λ o. Known o tree lines) (sym e) u
