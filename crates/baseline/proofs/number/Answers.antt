-- `baseline::number` meets its contract: what is left without one `+` is the text behind it, or the text itself.
use mathlib.Core.Path.{ap, sym, ◌∙◌}
use native.Mathlib.Omega.{arith}
use Rattle.text_rules.specs.Decimal.{numeral}
use Rattle.text_rules.proofs.ScanLaws.{rest_part}
use Rattle.text_rules.proofs.SearchLaws.{in_text}
use Rattle.baseline.proofs.Numbers.{plus-first, plus_none}
use Rattle.baseline.proofs.number.Goals as goal

pub slice_bounds-digits-count : goal.slice_bounds-digits-count
slice_bounds-digits-count c = in_text c.args.s.now 0 (omega (arith, c.byte.ensures, c.if-byte-eq43.true))

pub slice_bounds-digits-start : goal.slice_bounds-digits-start
slice_bounds-digits-start c = in_text c.args.s.now 0 (omega (arith, c.byte.ensures, c.if-byte-eq43.true))

pub returns-then-byte-eq43 : goal.returns-then-byte-eq43
returns-then-byte-eq43 c =
    let a = c.args in
    c.digits.ensures ∙ ap (numeral a.limit) (rest_part a.s.now 1) ∙ sym (plus-first a.limit a.s.now (sym c.byte.ensures ∙ c.if-byte-eq43.true))

pub returns : goal.returns
returns c =
    let a = c.args in
    c.digits-2.ensures ∙ sym (plus_none a.limit a.s.now (λ e. c.if-byte-eq43.false (c.byte.ensures ∙ e)))
