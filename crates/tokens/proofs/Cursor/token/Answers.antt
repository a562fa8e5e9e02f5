-- `tokens::Cursor::token` meets its contract: the byte here leaves the rules that may begin with it, and no other byte begins a token.
use mathlib.Core.Path.{subst, sym}
use mathlib.Core.Logic.{inl, inr}
use Rattle.tokens.specs.Steps.{Found}
use mathlib.Core.List.{◌∷◌}
use native.Mathlib.Omega.{arith}
use lib.ListN.{get_or}
use Rattle.tokens.proofs.Rules.{string_fits, token_apostrophe, token_letter, token_other, token_quote, token_slash}
use Rattle.tokens.proofs.Cursor.token.Goals as goal

pub returns-in-47 : goal.returns-in-47
returns-in-47 c = let a = c.args in
    subst (λ n. Found a.s.now a.self.at n c.comment.result) (sym (token_slash a.s.now a.self.at (get_or (0 ∷ a.s.now) a.self.at 0) c.in-47.is)) c.comment.ensures

pub returns-in-98 : goal.returns-in-98
returns-in-98 c = let a = c.args in
    subst (λ n. Found a.s.now a.self.at n c.raw_string.result) (sym (token_letter a.s.now a.self.at (get_or (0 ∷ a.s.now) a.self.at 0) c.in-98.is)) c.raw_string.ensures

pub returns-in-34 : goal.returns-in-34
returns-in-34 c = let a = c.args in
    omega (arith, token_quote a.s.now a.self.at (get_or (0 ∷ a.s.now) a.self.at 0) c.in-34.is, string_fits a.s.now a.self.at c.in-34.is)

pub returns-in-39 : goal.returns-in-39
returns-in-39 c = let a = c.args in
    subst (λ n. Found a.s.now a.self.at n c.char_literal.result) (sym (token_apostrophe a.s.now a.self.at (get_or (0 ∷ a.s.now) a.self.at 0) c.in-39.is)) c.char_literal.ensures

pub returns-in_default : goal.returns-in_default
returns-in_default c = let a = c.args in
    let none = c.in_default.in_default-own.rest in
    omega (arith, token_other a.s.now a.self.at (get_or (0 ∷ a.s.now) a.self.at 0) none.0.0.0.1 (λ x. none.0.0.1 (inl x)) (λ x. none.0.0.1 (inr x)) none.0.1 none.1)
