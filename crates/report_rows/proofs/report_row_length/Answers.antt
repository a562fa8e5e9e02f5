-- `report_rows::report_row_length` meets its contract: the line has at most 10 digits, so nothing wraps.
use native.Mathlib.Omega.{arith}
use Rattle.text_rules.proofs.DecimalLaws.{decimal-length}
use Rattle.functions.specs.Shown.{shown}
use Rattle.report_rows.specs.Texts.{row-size}
use Rattle.report_rows.proofs.report_row_length.Goals as goal

pub overflow_add-result : goal.overflow_add-result
overflow_add-result c = let f = c.args.f in omega (arith, decimal-length f.line (omega arith))

pub overflow_add-result-2 : goal.overflow_add-result-2
overflow_add-result-2 c = let f = c.args.f in omega (arith, decimal-length f.line (omega arith))

pub returns : goal.returns
returns c = let f = c.args.f in omega (arith, decimal-length f.line (omega arith), row-size (shown f))
