-- `signatures::lists::Lists::noted_body` meets its contract: a bracket has one partner, so what is noted tells of the same list. Where no brace is noted the
-- search goes on from `near`.
use Rattle.std.proofs.Common.{◌∙◌, arith, subst}
use Rattle.source_rules.proofs.WalkSteps.{body_end}
use Rattle.parts.specs.Told.{NoBody, no-brace}
use Rattle.signatures.specs.Signatures.{Follows, follows_begins}
use Rattle.signatures.proofs.lists.Lists.noted_body.Goals as goal

pub returns-then-near-self-clause-begins : goal.returns-then-near-self-clause-begins
returns-then-near-self-clause-begins c =
    let a = c.args in
    no-brace a.closed c.requires.3 (c.requires.4 ∙ body_end a.self.now.text.now a.near (omega arith) _ _ _)

pub returns-in-Broken-clause-begins : goal.returns-in-Broken-clause-begins
returns-in-Broken-clause-begins c = subst (λ s. NoBody s c.args.from) c.look_up.ensures c.in-Broken.ensures

pub returns-in-Nothing-clause-begins : goal.returns-in-Nothing-clause-begins
returns-in-Nothing-clause-begins c =
    let a = c.args in
    follows_begins a.self.now.text.now a.from a.closed c.far_body.result c.requires.3
    (subst (λ s. Follows s a.closed c.far_body.result) (c.sums.ensures ∙ c.look_up.ensures) c.far_body.ensures)
