-- Behind the bytes that both have in common, the next byte or the end decides.
use Rattle.std.proofs.Common.{ap₂, sym, ◌∙◌}
use Rattle.baseline.specs.Ordered.{fallen}
use Rattle.key_lines.specs.Keys.{falls-past, falls-there, falls-within, text_of}
use Rattle.key_lines.proofs.LineKeys.{both-meet}
use Rattle.key_lines.proofs.found.Found.falls.Goals as goal

pub returns-then-key-common : goal.returns-then-key-common
returns-then-key-common c =
    let f = c.args.self in
    let w = c.in-Some-Some in
    let m = both-meet f.last f.key f.common f.meets w.key w.last w.is-0 w.is-1 in
    sym (ap₂ (λ x y. fallen (text_of x) (text_of y)) w.is-1 w.is-0 ∙ falls-within _ _ _ m c.if-key-common.true)

pub returns-then-last-common : goal.returns-then-last-common
returns-then-last-common c =
    let f = c.args.self in
    let w = c.in-Some-Some in
    let m = both-meet f.last f.key f.common f.meets w.key w.last w.is-0 w.is-1 in
    sym (ap₂ (λ x y. fallen (text_of x) (text_of y)) w.is-1 w.is-0 ∙ falls-past _ _ _ m c.if-key-common.false c.if-last-common.true)

pub returns : goal.returns
returns c =
    let f = c.args.self in
    let w = c.in-Some-Some in
    let m = both-meet f.last f.key f.common f.meets w.key w.last w.is-0 w.is-1 in
    sym (ap₂ (λ x y. fallen (text_of x) (text_of y)) w.is-1 w.is-0 ∙ falls-there _ _ _ m c.if-key-common.false c.if-last-common.false)
