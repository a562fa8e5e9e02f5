-- `tokens::Cursor::char_literal` meets its contract: after an apostrophe the next two bytes decide.
use Prim.Native.Nat.{◌+◌}
use mathlib.Core.Path.{◌∙◌, subst, sym}
use Rattle.tokens.specs.Steps.{Found}
use native.Mathlib.Omega.{arith}
use Rattle.text_rules.proofs.SearchLaws.{in_text}
use Rattle.tokens.proofs.Rules.{char_escape, char_none, char-plain}
use Rattle.tokens.proofs.Cursor.char_literal.Goals as goal

pub escape-requires : goal.escape-requires
escape-requires c = let a = c.args in
    let e = sym c.byte.ensures ∙ c.if-byte-eq-BACKSLASH.true in
    omega (arith, in_text a.s.now (a.self.at + 1) (omega arith))

pub returns-then-byte-eq-BACKSLASH : goal.returns-then-byte-eq-BACKSLASH
returns-then-byte-eq-BACKSLASH c = let a = c.args in
    subst (λ n. Found a.s.now a.self.at n c.escape.result) (sym (char_escape a.s.now a.self.at c.requires.1 (sym c.byte.ensures ∙ c.if-byte-eq-BACKSLASH.true))) c.escape.ensures

pub returns-then-byte-eq-APOSTROPHE : goal.returns-then-byte-eq-APOSTROPHE
returns-then-byte-eq-APOSTROPHE c = let a = c.args in
    let e = sym c.byte-2.ensures ∙ c.if-byte-eq-APOSTROPHE.true in
    omega (arith, char-plain a.s.now a.self.at c.requires.1 (λ x. c.if-byte-eq-BACKSLASH.false (c.byte.ensures ∙ x)) e, in_text a.s.now (a.self.at + 2) (omega arith))

pub returns : goal.returns
returns c = let a = c.args in
    omega (arith, char_none a.s.now a.self.at c.requires.1 (λ x. c.if-byte-eq-BACKSLASH.false (c.byte.ensures ∙ x)) (λ x. c.if-byte-eq-APOSTROPHE.false (c.byte-2.ensures ∙ x)))
