-- `source::quiet_end` meets its contract: before the end of a span every byte is quiet, before the end of a body all but `#`, and everywhere all
-- but `#` and `f`.
use Rattle.std.proofs.Common.{◌≢◌, arith, get_or, length, rules}
use Rattle.text_rules.specs.Classes.{hash}
use Rattle.passing.specs.Passing.{Any, passed-line}
use Rattle.source.specs.Steps.{calm_body, calm_byte, calm_span, quieter_here, quieter_on}
use Rattle.source.proofs.quiet_end.Goals as goal

pub pass_while-b-requires-clause-line : goal.pass_while-b-requires-clause-line
pass_while-b-requires-clause-line c =
    passed-line Any c.args.s.now c.args.from.at c.args.from.line c.min.result c.pass_all-a.result c.pass_all-a.ensures c.requires.1

pub pass_while-requires-clause-line : goal.pass_while-requires-clause-line
pass_while-requires-clause-line c =
    let k = passed-line Any c.args.s.now c.args.from.at c.args.from.line c.min.result c.pass_all-a.result c.pass_all-a.ensures c.requires.1 in
    passed-line _ c.args.s.now c.pass_all-a.result.at c.pass_all-a.result.line c.min-2.result c.pass_while-b.result c.pass_while-b.ensures k

pub returns : goal.returns
returns c =
    let s = c.args.s.now in
    let span_end = c.args.span_end in
    let resume = c.args.resume in
    let on = quieter_on s c.args.from.at c.args.from.line span_end resume in
    let none = quieter_here s c.args.from.at c.args.from.line span_end resume c.requires.0 c.requires.1 in
    let span = on Any _ none c.min.result (omega (arith, c.min.ensures)) (λ at h x. calm_span s span_end resume at (omega (arith, c.min.ensures))) c.pass_all-a.result c.pass_all-a.ensures in
    let body = on _ _ span c.min-2.result (omega (arith, c.min-2.ensures))
    (λ at h x. let m : get_or s at 0 ≢ hash = search rules in calm_body s span_end resume at (omega (arith, c.min-2.ensures)) m) c.pass_while-b.result c.pass_while-b.ensures in
    on _ _ body (length s) (omega arith)
    (λ at h x.
    let m : get_or s at 0 ≢ hash = search rules in
    let n : get_or s at 0 ≢ 102 = search rules in
    calm_byte s span_end resume at (m, n)) c.pass_while.result c.pass_while.ensures
