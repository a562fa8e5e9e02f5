-- `tokens::Cursor::comment` meets its contract: after a slash the next byte decides which comment opens, if any.
use mathlib.Core.Path.{◌∙◌, sym}
use Prim.Native.Nat.{◌+◌}
use native.Mathlib.Omega.{arith}
use Rattle.text_rules.proofs.SearchLaws.{in_text}
use Rattle.tokens.proofs.Rules.{comment-block, comment-none, comment-rest}
use Rattle.tokens.proofs.Cursor.comment.Goals as goal

pub line_body-requires : goal.line_body-requires
line_body-requires c = let a = c.args in
    let e = sym c.byte.ensures ∙ c.in-47.is in
    omega (arith, in_text a.s.now (a.self.at + 1) (omega arith))

pub block_body-requires : goal.block_body-requires
block_body-requires c = let a = c.args in
    let e = sym c.byte.ensures ∙ c.in-42.is in
    omega (arith, in_text a.s.now (a.self.at + 1) (omega arith))

pub returns-in-47 : goal.returns-in-47
returns-in-47 c = let a = c.args in
    omega (arith, comment-rest a.s.now a.self.at c.requires.1 (sym c.byte.ensures ∙ c.in-47.is))

pub returns-in-42 : goal.returns-in-42
returns-in-42 c = let a = c.args in
    omega (arith, comment-block a.s.now a.self.at c.requires.1 (sym c.byte.ensures ∙ c.in-42.is))

pub returns-in_default : goal.returns-in_default
returns-in_default c = let a = c.args in
    omega (arith, comment-none a.s.now a.self.at c.requires.1 (λ x. c.in_default.in_default-own.rest.0.1 (c.byte.ensures ∙ x)) (λ x. c.in_default.in_default-own.rest.1 (c.byte.ensures ∙ x)))
