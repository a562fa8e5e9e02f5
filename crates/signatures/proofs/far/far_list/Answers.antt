-- `signatures::far::far_list` meets its contract: the end of the list is sought on, then the body behind it.
use Rattle.std.proofs.Common.{◌∙◌, ◌≡◌, ap, arith, sym}
use Rattle.std.proofs.Math.Option.{some}
use Rattle.text_rules.specs.Classes.{round_close, round_open}
use Rattle.source_rules.proofs.PlaceLaws.{partner-place}
use Rattle.search.specs.Place.{place_of}
use Rattle.parts.specs.Told.{sought_from}
use Rattle.signatures.specs.Signatures.{follows_begins}
use Rattle.signatures.proofs.far.far_list.Goals as goal

pub body_behind-requires : goal.body_behind-requires
body_behind-requires c =
    let a = c.args in
    let there : sought_from a.text.text.now a.from 0 ≡ some c.in_ok-closed.closed = c.requires.2 ∙ sym c.far_end.ensures ∙ ap place_of c.in_ok-closed.was in
    omega (arith, partner-place a.text.text.now a.from _ round_open round_close there)

pub returns : goal.returns
returns c =
    let a = c.args in
    let there : sought_from a.text.text.now a.from 0 ≡ some c.in_ok-closed.closed = c.requires.2 ∙ sym c.far_end.ensures ∙ ap place_of c.in_ok-closed.was in
    follows_begins a.text.text.now a.from _ c.body_behind.result there c.body_behind.ensures
