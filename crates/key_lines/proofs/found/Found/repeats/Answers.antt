-- A key is the last one where all its bytes are common to both, and it has as many.
use Rattle.std.proofs.Common.{ap₂, sym, ◌∙◌}
use Rattle.key_lines.specs.Keys.{last-there, last_within, repeats_last, text_of}
use Rattle.key_lines.proofs.LineKeys.{both-meet}
use Rattle.key_lines.proofs.found.Found.repeats.Goals as goal

pub returns-then-self-key : goal.returns-then-self-key
returns-then-self-key c =
    let f = c.args.self in
    let w = c.in-Some-Some in
    let m = both-meet f.last f.key f.common f.meets w.key w.last w.is-0 w.is-1 in
    sym (ap₂ (λ x y. repeats_last (text_of x) (text_of y)) w.is-1 w.is-0 ∙ last-there _ _ _ m c.if-self-key.true)

pub returns : goal.returns
returns c =
    let f = c.args.self in
    let w = c.in-Some-Some in
    let m = both-meet f.last f.key f.common f.meets w.key w.last w.is-0 w.is-1 in
    sym (ap₂ (λ x y. repeats_last (text_of x) (text_of y)) w.is-1 w.is-0 ∙ last_within _ _ _ m c.if-self-key.false)
