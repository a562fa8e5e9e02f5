-- `signatures::lists::Lists::further_body` meets its contract: the body is met nearby, or sought on from there.
use Rattle.std.proofs.Common.{◌∙◌}
use Rattle.parts.specs.Told.{no-brace}
use Rattle.signatures.proofs.lists.Lists.further_body.Goals as goal

pub returns-in-Ended-clause-begins : goal.returns-in-Ended-clause-begins
returns-in-Ended-clause-begins c =
    let a = c.args in
    no-brace a.closed c.requires.3 (c.requires.4 ∙ c.in-Ended.ensures)
