-- `gate_report::report` meets its contract: it is the report by the gate's limits.
use Rattle.gate_rules.specs.Functions.{gate_limits}
use Rattle.functions.specs.Shown.{limits_of}
use Rattle.sums.specs.Sums.{told}
use Rattle.std.proofs.Common.{map}
use Rattle.gate_report.specs.Reports.{reports_by}
use Rattle.gate_report.proofs.report.Goals as goal

pub returns : goal.returns
returns c =
    let a = c.args in
    reports_by _ (limits_of c.gate_limits.result) gate_limits a.tree.now a.work.now a.lent.now (map told a.table.now) a.output.now _ _ _ _ c.gate_limits.ensures c.report_with.ensures
