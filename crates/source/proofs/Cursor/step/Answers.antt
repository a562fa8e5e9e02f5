-- `source::Cursor::step` meets its contract: what holds of the cursor holds one byte further.
use Rattle.std.proofs.Common.{◌∙◌, ap, get_or}
use Rattle.text_rules.specs.Classes.{lf}
use Rattle.text_rules.specs.Search.{count_after}
use Rattle.source.specs.Bytes.{bytes_of}
use Rattle.source.specs.View.{state_of}
use Rattle.source.specs.Steps.{ready_next}
use Rattle.source.proofs.Cursor.step.Goals as goal

pub invariant_of-self : goal.invariant_of-self
invariant_of-self c =
    let i = c.args.self.now in
    record { ready = ready_next (bytes_of i.text) (state_of i) c.requires i.ready _ (c.count_after-self.ensures.0 ∙ ap (λ u. count_after lf (get_or u i.at 0) i.line) c.bytes-s.ensures) }

pub returns-clause-ready : goal.returns-clause-ready
returns-clause-ready c =
    let i = c.args.self.now in
    ready_next (bytes_of i.text) (state_of i) c.requires i.ready _
    (c.count_after-self.ensures.0 ∙ ap (λ u. count_after lf (get_or u i.at 0) i.line) c.bytes-s.ensures)
