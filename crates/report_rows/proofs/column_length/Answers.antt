-- `report_rows::column_length` meets its contract: a number of 32 bits has at most 10 digits.
use native.Mathlib.Omega.{arith}
use Rattle.text_rules.proofs.DecimalLaws.{decimal-length}
use Rattle.report_rows.proofs.column_length.Goals as goal

pub returns : goal.returns
returns c = omega (arith, decimal-length c.args.n (omega arith))
