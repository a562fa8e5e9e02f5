-- The walk over the rest of the text tells where the body ends, and its measures.
use Rattle.std.proofs.Common.{ℕ, ◌+◌, ◌-◌, ◌≡◌, List, drop, length, subst, take, ◌∙◌, ap, arith, sym, get_or, length-drop, ◌<◌}
use Rattle.text_rules.specs.Classes.{brace_close, brace_open}
use Rattle.text_rules.proofs.ScanLaws.{head_at, rest_part}
use Rattle.source_rules.proofs.PlaceLaws.{partner-place}
use Rattle.measures.specs.WalkLaws.{part-closed, part-measured}
use Rattle.measures.specs.Walks.{WalkedFrom}
use Rattle.source.specs.Bytes.{bytes_of}
use Rattle.source.proofs.text.Text.block_at.Goals as goal

rest_of : (s t : List ℕ) (at : ℕ) → s ≡ t → take (length s - at) (drop at s) ≡ drop at t
rest_of s t at e = rest_part s at ∙ ap (drop at) e

pub walk_from-requires : goal.walk_from-requires
walk_from-requires c =
    let s = bytes_of c.args.self.now in
    let rest = rest_of _ s c.args.body c.bytes-s.ensures in
    let long : 0 < length (drop c.args.body s) = omega (arith, length-drop c.args.body s, c.requires.inside) in
    (subst (λ t. 0 < length t) (sym rest) long, subst (λ t. get_or t 0 0 ≡ brace_open) (sym rest) (head_at s c.args.body ∙ c.requires.brace))

pub overflow_add-result : goal.overflow_add-result
overflow_add-result c =
    let s = bytes_of c.args.self.now in
    let r = subst (λ t. WalkedFrom t 0 c.walk_from.result) (rest_of _ s c.args.body c.bytes-s.ensures) c.walk_from.ensures in
    omega (arith, ap length c.bytes-s.ensures, partner-place s (c.args.body + 1) _ brace_open brace_close (part-closed s c.args.body _ r _ c.in-Some.is))

pub returns-in-Some-clause-block : goal.returns-in-Some-clause-block
returns-in-Some-clause-block c =
    let s = bytes_of c.args.self.now in
    let r = subst (λ t. WalkedFrom t 0 c.walk_from.result) (rest_of _ s c.args.body c.bytes-s.ensures) c.walk_from.ensures in
    (part-closed s c.args.body _ r _ c.in-Some.is, part-measured s c.args.body _ r _ c.in-Some.is)
