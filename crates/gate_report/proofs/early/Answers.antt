-- `gate_report::early` meets its contract: its tests are those of the table, in the table's order.
use mathlib.Core.Path.{sym}
use Rattle.std.proofs.lemmas.Result.{err_from_is_err_and}
use Rattle.answers.proofs.NumbersLaws.{number_least}
use Rattle.gate_rules.proofs.FileLaws.{count-inside}
use Rattle.gate_rules.proofs.TreeLaws.{unrefused}
use Rattle.gate_report.specs.Reports.{early-tree}
use Rattle.gate_report.proofs.early.Goals as goal

pub returns-in_err-accept : goal.returns-in_err-accept
returns-in_err-accept c =
    let p = err_from_is_err_and c.from_residual.result c.from_residual.ensures.1 in
    let a = c.args in
    rw (p.1, p.2) (sym (early-tree a.tree.now a.work a.entries _ (sym c.in_err-accept.ensures) (number_least c.in_err-accept.field-0.0)))

pub file_count-requires : goal.file_count-requires
file_count-requires c = count-inside c.args.tree.now (unrefused c.args.tree.now (sym c.in_ok-accept.ensures)).laid
