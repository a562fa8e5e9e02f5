-- The digits ahead go on from the number that those behind made.
use Rattle.std.proofs.Common.{sym, ap, ◌∙◌, arith, rules, ◌+◌, drop}
use Rattle.baseline.specs.Reads.{number_of}
use Rattle.baseline.proofs.Numbers.{digit_next, digit_refused, digits-end, numeral-none, numeral-start, numeral_from}
use Rattle.baseline.proofs.digits.Goals as goal

pub returns-then-is_empty : goal.returns-then-is_empty
returns-then-is_empty c = sym (numeral-none c.args.limit c.args.s.now (search rules))

pub loop-b-init : goal.loop-b-init
loop-b-init c = record { within = omega arith; same = numeral-start c.args.limit c.args.s.now (search rules) }

pub returns-in_err-n : goal.returns-in_err-n
returns-in_err-n c =
    let a = c.args in
    ap number_of c.from_residual.ensures
    ∙ sym (sym c.loop-b.invariant.same ∙ digit_refused a.limit c.loop-b.n a.s.now c.loop-b.b-index (search rules) c.in_err-n.ensures)

pub loop-b-preserved : goal.loop-b-preserved
loop-b-preserved c =
    let a = c.args in
    let e = c.in_ok-n.ensures in
    record {
      within = e.2;
      same = ap (λ m. numeral_from a.limit m (drop (c.loop-b.b-index + 1) a.s.now)) e.1
          ∙ sym (digit_next a.limit c.loop-b.n a.s.now c.loop-b.b-index (search rules) e.0) ∙ c.loop-b.invariant.same;
    }

pub returns : goal.returns
returns c = sym (sym c.loop-b.invariant.same ∙ digits-end c.args.limit c.loop-b.n c.args.s.now c.loop-b.b-index (search rules) c.loop-b.invariant.within)
