-- `gate_report::report_alone` meets its contract: the limits are the gate's.
use Rattle.gate_rules.specs.Functions.{gate_limits}
use Rattle.functions.specs.Shown.{limits_of}
use Rattle.gate_report.specs.Reports.{alone_by_lem, any_table}
use Rattle.gate_report.proofs.report_alone.Goals as goal

pub returns : goal.returns
returns c =
    let a = c.args in
    alone_by_lem _ (limits_of c.gate_limits.result) gate_limits a.tree.now a.work.now a.lent.now (any_table 1024) a.output.now _ _ _ c.gate_limits.ensures c.report_alone_with.ensures
