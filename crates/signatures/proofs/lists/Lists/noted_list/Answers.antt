-- `signatures::lists::Lists::noted_list` meets its contract: where nothing is noted the search goes on from `near`, and where no brace is from behind the list.
use Rattle.std.proofs.Common.{◌∙◌, ◌≡◌, ap, arith, length, subst}
use Rattle.std.proofs.Math.Option.{some}
use Rattle.text_rules.specs.Classes.{round_close, round_open}
use Rattle.source_rules.proofs.PlaceLaws.{partner-place}
use Rattle.source_rules.proofs.WalkSteps.{partner-end}
use Rattle.parts.specs.Told.{NoBody, no_end, sought_from}
use Rattle.signatures.specs.Signatures.{Follows, follows_begins}
use Rattle.signatures.proofs.lists.Lists.noted_list.Goals as goal

pub returns-then-near-self-clause-begins : goal.returns-then-near-self-clause-begins
returns-then-near-self-clause-begins c =
    let a = c.args in
    no_end (c.requires.3 ∙ partner-end a.self.now.text.now a.near (omega arith) round_open round_close a.depth)

pub returns-in-Broken-clause-begins : goal.returns-in-Broken-clause-begins
returns-in-Broken-clause-begins c = subst (λ s. NoBody s c.args.from) c.look_up.ensures c.in-Broken.ensures

pub body_behind-requires : goal.body_behind-requires
body_behind-requires c =
    let a = c.args in
    let s = c.look_up.new.self.text.now in
    let there : sought_from s a.from 0 ≡ some c.in-Closed.closed = c.in-Closed.ensures in
    omega (arith, partner-place s a.from _ round_open round_close there, ap length c.sums-in-Closed.ensures)

pub returns-in-Closed-clause-begins : goal.returns-in-Closed-clause-begins
returns-in-Closed-clause-begins c =
    let a = c.args in
    let there = subst (λ s. sought_from s a.from 0 ≡ some c.in-Closed.closed) c.look_up.ensures c.in-Closed.ensures in
    follows_begins a.self.now.text.now a.from _ c.body_behind.result there (subst (λ s. Follows s c.in-Closed.closed c.body_behind.result) (c.sums-in-Closed.ensures ∙ c.look_up.ensures) c.body_behind.ensures)
