-- `gate_check::check` meets its contract: the limits are the gate's.
use Rattle.gate_rules.specs.Functions.{gate_limits}
use Rattle.functions.specs.Shown.{limits_of}
use Rattle.gate_check.specs.Checks.{checks_at}
use Rattle.gate_check.proofs.check.Goals as goal

pub returns : goal.returns
returns c =
    let limits = c.gate_limits in
    let a = c.args in
    checks_at (limits_of limits.result) gate_limits a.tree.now a.baseline.now a.work.now a.lent.now a.output.now limits.ensures c.check_with.ensures
