-- The bytes are the same, and so is what holds of the place in them.
use Rattle.std.proofs.Common.{◌∙◌, ap, subst, sym}
use Rattle.source.specs.Cursors.{Ready, state}
use Rattle.source.proofs.Cursor.lent_again.Goals as goal

pub invariant_of-result : goal.invariant_of-result
invariant_of-result c =
    let i = c.args.self in
    let same = sym (c.lent_again.ensures ∙ c.requires) in
    record { ready = subst (λ t. Ready t (state t i.at i.line i.span_end i.resume i.spanless i.barren_from i.barren_to)) same i.ready }

pub returns : goal.returns
returns c =
    let i = c.args.self in
    ap (λ t. state t i.at i.line i.span_end i.resume i.spanless i.barren_from i.barren_to) (c.lent_again.ensures ∙ c.requires)
