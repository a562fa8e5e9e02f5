-- The definition's tests are joined by "and", so their order is free.
-- `tokens::Cursor::raw_string` meets its contract: the letters, the hashes and the quote stand one after another, so the places found are those of the definition's lengths.
use mathlib.Core.Path.{◌∙◌, ap, refl, subst, sym}
use Rattle.source_rules.specs.Blank.{raw_token}
use Rattle.tokens.specs.Steps.{Found}
use mathlib.Core.List.{◌∷◌}
use Prim.Native.Nat.{ℕ}
use native.Mathlib.Omega.{arith}
use lib.ListN.{drop, get_or}
use Rattle.text_rules.specs.Classes.{is_word}
use Rattle.text_rules.proofs.SearchLaws.{in_text}
use Rattle.tokens.proofs.Rules.{raw_after_word, raw_fits, raw_no_letters, raw_no-quote}
use Rattle.tokens.proofs.Cursor.raw_string.Goals as goal

pub returns-in_err-letters : goal.returns-in_err-letters
returns-in_err-letters c =
    let a = c.args in
    let p = get_or (0 ∷ a.s.now) a.self.at 0 in
    let none = raw_no_letters a.s.now a.self.at p a.self.at (omega (arith, c.in_err-letters.ensures)) refl in
    subst (Found a.s.now a.self.at (raw_token p (drop a.self.at a.s.now))) (sym c.from_residual.ensures) none

pub returns-then-byte-ne-QUOTE : goal.returns-then-byte-ne-QUOTE
returns-then-byte-ne-QUOTE c = let a = c.args in
    omega (
      arith,
      raw_no-quote a.s.now a.self.at (get_or (0 ∷ a.s.now) a.self.at 0) c.in_ok-letters.letters.at c.in_ok-letters.ensures.place
          c.hashes-opening.result.at c.hashes-opening.ensures.place (λ x. c.if-byte-ne-QUOTE.true (c.byte.ensures ∙ x)),
    )

pub returns-then-is_word : goal.returns-then-is_word
returns-then-is_word c = let a = c.args in
    omega (arith, raw_after_word (get_or (0 ∷ a.s.now) a.self.at 0) (drop a.self.at a.s.now) (sym (ap (λ (k : ℕ). is_word k) c.byte_before.ensures) ∙ sym c.is_word.ensures ∙ c.if-is_word.true))

pub raw_body-requires : goal.raw_body-requires
raw_body-requires c = let a = c.args in
    let e = sym c.byte.ensures ∙ c.if-byte-ne-QUOTE.false in
    omega (arith, in_text a.s.now c.hashes-opening.result.at (omega arith))

pub returns : goal.returns
returns c =
    let a = c.args in
    let letters = c.in_ok-letters.ensures in
    let fits =
    raw_fits a.s.now a.self.at (get_or (0 ∷ a.s.now) a.self.at 0) c.in_ok-letters.letters.at letters.place c.hashes-opening.result.at c.hashes-opening.ensures.place
    (omega (arith, letters.some, letters.place))
    (sym (ap (λ (k : ℕ). is_word k) c.byte_before.ensures) ∙ sym c.is_word.ensures ∙ c.if-is_word.false) (sym c.byte.ensures ∙ c.if-byte-ne-QUOTE.false) in
    record { some = omega (arith, fits, letters.some, letters.place, c.hashes-opening.ensures.place); place = omega (arith, fits, letters.place, c.hashes-opening.ensures.place); inside = omega arith }
