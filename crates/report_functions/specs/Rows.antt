-- The rows of the report, as a loop writes them.
use Rattle.std.specs.Prelude.{◌≡◌, refl, List, [], ◌∷◌, ◌++◌}
use Rattle.gate_rules.specs.Functions.{Fun, Limits, over}
use Rattle.gate_rules.specs.Report.{report_row, report_rows, reported, worse}
use Rattle.gate_rules.proofs.RowOrders.{worse_orders}
use Rattle.gate_rules.specs.Update.{over_limit}
use Rattle.functions.specs.Shown.{no_fun}
use Rattle.order.specs.Chosen.{left, left-all}

-- all rows, one behind the other
pub reported-is : (L : Limits) (fs : List Fun) → left worse worse_orders no_fun fs (over L) 0 ≡ reported L fs
unfolding reported over_limit
reported-is L fs = left-all worse worse_orders no_fun fs (over L)

pub no_rows : report_rows [] ≡ []
unfolding report_rows
no_rows = refl

pub one-row : (f : Fun) (fs : List Fun) → report_rows (f ∷ fs) ≡ report_row f ++ report_rows fs
unfolding report_rows
one-row f fs = refl
