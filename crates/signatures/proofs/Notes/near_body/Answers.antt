-- `signatures::Notes::near_body` meets its contract: the body is met before the place at which searches are looked up, or it is looked up there.
use Rattle.std.proofs.Common.{◌+◌, ◌∙◌, ◌≡◌, ap, arith, length, subst}
use Rattle.std.proofs.Math.Option.{none}
use Rattle.text_rules.specs.Classes.{round_close, round_open}
use Rattle.source_rules.proofs.PlaceLaws.{partner-place}
use Rattle.flat.specs.Body.{Reaches, body_from}
use Rattle.parts.specs.Told.{no-brace}
use Rattle.signatures.specs.Signatures.{nothing-begins, nothing_same}
use Rattle.signatures.specs.Text.{text_of}
use Rattle.signatures.proofs.Notes.near_body.Goals as goal

pub overflow_add-behind : goal.overflow_add-behind
overflow_add-behind c =
    let a = c.args in
    omega (arith, partner-place (text_of a.self.now) a.from a.closed round_open round_close c.requires, ap length c.text-text.ensures)

pub mark_after-mark-requires : goal.mark_after-mark-requires
mark_after-mark-requires c =
    let a = c.args in
    omega (arith, partner-place (text_of a.self.now) a.from a.closed round_open round_close c.requires, ap length c.text-text.ensures)

pub marked_body-requires : goal.marked_body-requires
marked_body-requires c =
    let a = c.args in
    let s = text_of a.self.now in
    let i = partner-place s a.from a.closed round_open round_close c.requires in
    let e = subst (λ s. Reaches s (a.closed + 1) c.mark_after-mark.result c.default.result c.body_before-met.result) c.text-text.ensures c.body_before-met.ensures in
    let f = subst (Reaches s (a.closed + 1) c.mark_after-mark.result c.default.result) c.in-Further.is e in
    let begins = (nothing-begins s a.closed _ (nothing_same c.default.result c.default.ensures)).1 in
    (omega (arith, c.mark_after-mark.ensures, i), omega (arith, c.mark_after-mark.ensures, ap length c.text-text.ensures), f.1, c.requires, begins ∙ f.0)

pub returns-in-Ended-clause-begins : goal.returns-in-Ended-clause-begins
returns-in-Ended-clause-begins c =
    let a = c.args in
    let e = subst (λ s. body_from s (a.closed + 1) c.default.result ≡ none) c.text-text.ensures c.in-Ended.ensures in
    no-brace a.closed c.requires ((nothing-begins (text_of a.self.now) a.closed _ (nothing_same c.default.result c.default.ensures)).1 ∙ e)
