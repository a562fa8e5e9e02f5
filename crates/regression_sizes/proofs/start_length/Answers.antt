-- `regression_sizes::start_length` meets its contract: the line's number has at most 10 digits.
use native.Mathlib.Omega.{arith}
use Rattle.text_rules.proofs.DecimalLaws.{decimal-length}
use Rattle.regression_sizes.proofs.start_length.Goals as goal

pub location_length-requires : goal.location_length-requires
location_length-requires c = omega (arith, c.requires.path_short, c.requires.name_short)

pub overflow_add-result : goal.overflow_add-result
overflow_add-result c =
    let a = c.args in
    let line = decimal-length a.f.line (omega arith) in
    let path = c.requires.path_short in
    let name = c.requires.name_short in
    omega arith

pub returns : goal.returns
returns c =
    let a = c.args in
    let line = decimal-length a.f.line (omega arith) in
    let path = c.requires.path_short in
    let name = c.requires.name_short in
    (omega arith, omega arith)
