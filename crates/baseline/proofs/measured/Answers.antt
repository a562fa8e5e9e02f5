-- A number within u32 fits it.
use Rattle.std.proofs.Common.{arith}
use Rattle.text_rules.proofs.DecimalLaws.{number_read}
use Rattle.baseline.specs.Fields.{was_read}
use Rattle.baseline.proofs.measured.Goals as goal

pub overflow_cast-cyclomatic : goal.overflow_cast-cyclomatic
overflow_cast-cyclomatic c = record { fits = omega (arith, number_read 4294967295 _ c.in_ok-cyclomatic.field-0 (was_read _ _ _ c.number.ensures c.in_ok-cyclomatic.was)) }
