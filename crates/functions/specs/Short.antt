-- Path and name of a function of a scanned tree are no longer than the largest tree, so that sums of their lengths fit.
use Rattle.std.specs.Prelude.{◌≤◌, length}
use Rattle.gate_rules.specs.Functions.{Fun}

pub record Short (f : Fun) : Type 0 where
  pub path_short : length f.path ≤ 16777216
  pub name_short : length f.name ≤ 16777216
