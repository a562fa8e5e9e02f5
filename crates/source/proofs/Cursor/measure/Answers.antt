-- The two runs tell where the name begins and ends, and the rules have one law for a missing name, one for a missing bracket and one for a function.
use Rattle.std.proofs.Common.{ℕ, ◌+◌, ◌≡◌, List, arith, drop, ap, subst, ◌∙◌, refl}
use Rattle.text_rules.specs.Classes.{is_space, is_word}
use Rattle.text_rules.specs.Search.{run}
use Rattle.source_rules.proofs.TextScanLaws.{Here}
use Rattle.source.specs.Bytes.{bytes_of}
use Rattle.source.specs.Cursors.{Barren, FoundAt, Signed}
use Rattle.source.specs.Steps.{broken, function_there, nameless}
use Rattle.source.proofs.Cursor.measure.Goals as goal

from_is : (s t : List ℕ) → t ≡ s → (at from : ℕ) → from ≡ at + 2 + run is_space (drop (at + 2) t) → from ≡ at + 2 + run is_space (drop (at + 2) s)
from_is s t e at from h = h ∙ ap (λ u. at + 2 + run is_space (drop (at + 2) u)) e

to_is : (s t : List ℕ) → t ≡ s → (from to : ℕ) → to ≡ from + run is_word (drop from t) → to ≡ from + run is_word (drop from s)
to_is s t e from to h = h ∙ ap (λ u. from + run is_word (drop from u)) e

pub returns-then-to-from-clause-measured : goal.returns-then-to-from-clause-measured
returns-then-to-from-clause-measured c =
    let s = bytes_of c.args.self.now.text in
    let at = c.args.self.now.at in
    let e₁ = from_is s _ c.bytes-s.ensures at _ c.space_end-from.ensures.end in
    let e₂ = to_is s _ c.bytes-s.ensures _ _ c.word_end-to.ensures.end in
    (nameless s at _ _ e₁ e₂ c.if-to-from.true, refl)

pub returns-then-to-self-clause-measured : goal.returns-then-to-self-clause-measured
unfolding Barren
returns-then-to-self-clause-measured c =
    let s = bytes_of c.args.self.now.text in
    let at = c.args.self.now.at in
    let e₁ = from_is s _ c.bytes-s.ensures at _ c.space_end-from.ensures.end in
    let e₂ = to_is s _ c.bytes-s.ensures _ _ c.word_end-to.ensures.end in
    let none-there = broken s at _ _ e₁ e₂ c.word_end-to.ensures.behind c.if-to-from.false (λ start. c.args.self.now.ready.no_function start c.word_end-to.result c.if-self-to.true c.if-to-self.true) in
    (none-there, refl)

pub returns-in-Err-clause-measured : goal.returns-in-Err-clause-measured
returns-in-Err-clause-measured c =
    let s = bytes_of c.args.self.now.text in
    let at = c.args.self.now.at in
    let e₁ = from_is s _ c.bytes-s.ensures at _ c.space_end-from.ensures.end in
    let e₂ = to_is s _ c.bytes-s.ensures _ _ c.word_end-to.ensures.end in
    let l = subst (Signed s c.word_end-to.result) c.in-Err.is c.signature_at-signature.ensures.signed in
    let none-there = broken s at _ _ e₁ e₂ c.word_end-to.ensures.behind c.if-to-from.false l.none_here in
    (none-there, refl)

pub returns-in-Ok-clause-measured : goal.returns-in-Ok-clause-measured
returns-in-Ok-clause-measured c =
    let s = bytes_of c.args.self.now.text in
    let at = c.args.self.now.at in
    let e₁ = from_is s _ c.bytes-s.ensures at _ c.space_end-from.ensures.end in
    let e₂ = to_is s _ c.bytes-s.ensures _ _ c.word_end-to.ensures.end in
    let l = subst (Signed s c.word_end-to.result) c.in-Ok.is c.signature_at-signature.ensures.signed in
    let f = subst (λ u. FoundAt u c.args.self.now.line c.space_end-from.result c.word_end-to.result c.in-Ok.b c.found_at.result) c.bytes-s.ensures c.found_at.ensures in
    let ready = c.args.self.now.ready in
    let here : Here s at c.args.self.now.line (drop at s) =
    record { rest = refl; inside = ready.inside; line-least = ready.line-least; line-most = omega (arith, ready.line-most) } in
    function_there s at _ _ e₁ e₂ c.word_end-to.ensures.behind c.if-to-from.false c.args.self.now.line here c.in-Ok.b c.found_at.result l f
