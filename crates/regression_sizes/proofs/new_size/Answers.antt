-- `regression_sizes::new_size` meets its contract: the bytes are those of the line's parts.
use mathlib.Core.Path.{refl, sym, ◌∙◌}
use native.Mathlib.Omega.{arith}
use Rattle.gate_rules.specs.Check.{new_and_over}
use Rattle.functions.specs.Shown.{limits_of, shown}
use Rattle.regression_sizes.specs.Lines.{measured-none, measured-one, new_length_lem, new_none, new_some}
use Rattle.regression_sizes.proofs.new_size.Goals as goal

pub returns-then-is_over : goal.returns-then-is_over
returns-then-is_over c =
    let a = c.args in
    let f = shown a.f in
    let start = c.start_length-start.ensures in
    let first = c.digits.ensures in
    let second = c.digits-then-is_over.ensures in
    let third = c.digits-then-is_over-2.ensures in
    let fourth = c.digits-then-is_over-3.ensures in (
      measured-one (new_and_over f) (new_some (limits_of a.limits) f (sym c.is_over.ensures ∙ c.if-is_over.true)) refl (omega (arith, start.0, new_length_lem f)),
      omega arith,
      omega arith,
    )

pub returns : goal.returns
returns c =
    let a = c.args in
    (measured-none (new_none (limits_of a.limits) (shown a.f) (sym c.is_over.ensures ∙ c.if-is_over.false)) c.default.ensures.0 c.default.ensures.1, omega arith, omega arith)
