-- A file with no function is not the next one listed.
use Prim.Native.Nat.{ℕ, ◌<◌}
use mathlib.Core.Path.{◌≡◌}
use mathlib.Core.List.{List}
use mathlib.Core.Bool.{false}
use Rattle.gate_rules.specs.Report.{heavier}
use Rattle.gate_rules.proofs.RowOrders.{heavier_orders}
use Rattle.gate_rules.specs.Tree.{file_count}
use Rattle.order.specs.Chosen.{Decides, fit_fails, never}
use Rattle.report_files.specs.Files.{FileFit, file_at}
use Rattle.report_files.specs.Weights.{is_listed, listed, listed_not, no_weight, weight_at}

pub unlisted : (tree : List ℕ) (last k : ℕ) → k < file_count tree → (weight_at tree k).sum ≡ 0 → Decides (FileFit tree last (file_at tree k)) false
unlisted tree last k h e = never (fit_fails heavier heavier_orders no_weight (listed tree) is_listed last k (listed_not tree k h e))
