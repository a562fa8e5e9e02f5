-- `tokens::Cursor::raw_letters` meets its contract: the definition's two tests, in its order.
use Rattle.std.proofs.Common.{◌+◌, ◌∙◌, arith, get_or, sym}
use Rattle.text_rules.proofs.SearchLaws.{in_text}
use Rattle.tokens.proofs.Bodies.{other-first, other-second, pair_there}
use Rattle.tokens.proofs.Rules.{letters_none, letters_one, letters_two}
use Rattle.tokens.proofs.Cursor.raw_letters.Goals as goal

pub returns-in-114-default : goal.returns-in-114-default
returns-in-114-default c = let a = c.args in let e = letters_one a.s.now a.self.at c.in-114-default.is-0 in
    record { some = omega (arith, e); place = omega (arith, e); inside = omega arith }

pub returns-in-98-eq114 : goal.returns-in-98-eq114
returns-in-98-eq114 c =
    let a = c.args in
    let w = c.in-98-eq114 in
    let first = get_or a.s.now a.self.at 0 in
    let next = get_or a.s.now (a.self.at + 1) 0 in
    let n = sym c.byte.ensures ∙ w.is-1 in
    let e = letters_two a.s.now a.self.at (λ z. omega (arith, z, w.is-0)) (pair_there first next 98 114 w.is-0 n) in
    record { some = omega (arith, e); place = omega (arith, e); inside = omega (arith, in_text a.s.now (a.self.at + 1) (omega (arith, n))) }

pub returns-in_default : goal.returns-in_default
returns-in_default c =
    let a = c.args in
    let w = c.in_default in
    letters_none a.s.now a.self.at (λ z. omega (arith, z, w.is-0)) (other-second _ _ 98 114 (λ z. w.is-1.1 (c.byte.ensures ∙ z)))

pub returns-in_default-2 : goal.returns-in_default-2
returns-in_default-2 c =
    let a = c.args in
    let w = c.in_default in
    letters_none a.s.now a.self.at w.is-0.0.1 (other-first _ _ 98 114 w.is-0.1)
