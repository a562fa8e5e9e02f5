-- `gate_report::report_alone_with` meets its contract: a table of zeros tells no sums.
use Rattle.functions.specs.Shown.{limits_of}
use Rattle.gate_report.specs.Reports.{reports_alone}
use Rattle.gate_report.proofs.report_alone_with.Goals as goal

pub returns : goal.returns
returns c =
    let a = c.args in
    reports_alone _ (limits_of a.limits) a.tree.now a.work.now a.lent.now a.output.now _ _ _ _ c.report_with.ensures
