-- The rows of update and of the report, and the heaviest files: sorted, stable and complete, each in one statement.
use Rattle.std.specs.Prelude.{◌≡◌, refl, ◌↔◌, Bool, true, List, take}
use Rattle.text_rules.specs.ByteOrder.{Orders}
use Rattle.text_rules.specs.Bytes.{◌∈◌}
use Rattle.text_rules.specs.BytesLaws.{kept_iff}
use Rattle.text_rules.specs.Order.{sort}
use Rattle.text_rules.proofs.SortLaws.{StableSort, sort-stable}
use Rattle.gate_rules.specs.Functions.{Fun, Limits, over}
use Rattle.gate_rules.specs.Report.{Weight, heavier, heaviest, reported, worse}
use Rattle.gate_rules.proofs.RowOrders.{heavier_orders, row_orders, worse_orders}
use Rattle.gate_rules.specs.Update.{over_limit, recorded, row_before}

-- rows by an order: the over-limit functions, and no others, in the order, those that tie in scan order
pub record Rows (less : Fun → Fun → Bool) (L : Limits) (fs rows : List Fun) : Type 0 where
  pub sorted : StableSort less (over_limit L fs) rows
  pub exact : (f : Fun) → (f ∈ rows) ↔ ((f ∈ fs) × (over L f ≡ true))

module _ (less : Fun → Fun → Bool) (orders : Orders less) (L : Limits) (fs : List Fun) where
  rows_of : Rows less L fs (sort less (over_limit L fs))
  unfolding over_limit
  rows_of =
      let s = sort-stable less orders (over_limit L fs) in
      record {
        sorted = s;
        exact = λ f. (λ m. (kept_iff (over L) fs f).0 ((s.complete f).0 m), λ h. (s.complete f).1 ((kept_iff (over L) fs f).1 h));
      }

pub update-rows : (L : Limits) (fs : List Fun) → Rows row_before L fs (recorded L fs)
unfolding recorded
update-rows L fs = rows_of row_before row_orders L fs

pub report-rows : (L : Limits) (fs : List Fun) → Rows worse L fs (reported L fs)
unfolding reported
report-rows L fs = rows_of worse worse_orders L fs

-- the heaviest files are the first ten of all files with a function, in the order
pub heaviest-first : (ws : List Weight) → (sorted : List Weight) × StableSort heavier ws sorted × (heaviest ws ≡ take 10 sorted)
unfolding heaviest
heaviest-first ws = (sort heavier ws, sort-stable heavier heavier_orders ws, refl)
