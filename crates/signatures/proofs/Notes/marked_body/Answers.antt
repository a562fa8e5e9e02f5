-- `signatures::Notes::marked_body` meets its contract: what is known of the search is what it finds.
use Rattle.std.proofs.Common.{◌∙◌, ◌≡◌, subst}
use Rattle.std.proofs.Math.Option.{none}
use Rattle.flat.specs.Body.{body_from}
use Rattle.parts.specs.Told.{no-brace}
use Rattle.signatures.proofs.Notes.marked_body.Goals as goal

pub returns-in-Some-None-clause-begins : goal.returns-in-Some-None-clause-begins
returns-in-Some-None-clause-begins c =
    let a = c.args in
    let nowhere = rw c.in-Some-None.field-0-is at c.in-Some-None.ensures in
    no-brace a.closed c.requires.3 (c.requires.4 ∙ subst (λ s. body_from s a.mark a.n ≡ none) c.sums.ensures nowhere.0)
