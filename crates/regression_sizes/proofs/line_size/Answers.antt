-- `regression_sizes::line_size` meets its contract: the bytes are those of the line's parts.
use native.Mathlib.Omega.{arith}
use Rattle.functions.specs.Shown.{shown}
use Rattle.regression_sizes.specs.Lines.{one-length}
use Rattle.regression_sizes.proofs.line_size.Goals as goal

pub returns : goal.returns
returns c =
    let a = c.args in
    let start = c.start_length.ensures in
    let first = c.digits.ensures in
    let second = c.digits-2.ensures in (
      record {
        count-is = rw c.if-not-there.false;
        bytes_is = rw c.if-not-there.false (omega (arith, start.0, one-length (shown a.f) a.first.now a.m a.second.now a.n));
      },
      omega arith,
      omega arith,
    )
