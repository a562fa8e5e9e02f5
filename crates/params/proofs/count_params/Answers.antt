-- A list that is all white space has no parameters; any other is the part that the definition trims it to.
use mathlib.Core.Path.{◌∙◌, ◌≡◌, sym}
use native.Mathlib.Omega.{arith}
use Rattle.source_rules.proofs.MeasuresLaws.{params-most}
use Rattle.source_rules.specs.Parameters.{params_of}
use Rattle.params.proofs.List.{params_none, params-part}
use Rattle.params.proofs.count_params.Goals as goal

pub returns-then-to-from : goal.returns-then-to-from
returns-then-to-from c = (sym (params_none c.args.inner.now c.white_end-from.result c.text_end-to.result c.white_end-from.ensures.0 c.text_end-to.ensures.0 c.if-to-from.true), omega arith)

pub returns : goal.returns
returns c = let s = c.args.inner.now in
    let e : c.count_trimmed.result ≡ params_of s = c.count_trimmed.ensures ∙ params-part s c.white_end-from.result c.text_end-to.result c.white_end-from.ensures.0 c.text_end-to.ensures.0 in
    (e, omega (arith, params-most s))
