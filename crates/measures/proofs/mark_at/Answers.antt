-- A pair and a byte are told apart as in the definition.
use mathlib.Core.Path.{◌∙◌, ◌≡◌, ap, sym}
use mathlib.Core.Bool.{false, true}
use mathlib.Core.List.{[], ◌∷◌}
use lib.ListN.{drop, get_or}
use Rattle.source_rules.specs.Measures.{is_pair}
use Prim.Native.Nat.{◌+◌}
use native.Mathlib.Omega.{arith}
use Rattle.measures.proofs.BodyLaws.{byte-decides, byte-length, pair-at, pair-decides, pair-length, piece-room}
use Rattle.measures.proofs.mark_at.Goals as goal

pub returns-then-is_pair : goal.returns-then-is_pair
returns-then-is_pair c =
    let a = c.args in
    let s = a.s.now in
    let l = c.requires.1 in
    let p : is_pair (drop a.at s) ≡ true = pair-at s a.at ∙ ap (λ k. is_pair (get_or s a.at 0 ∷ k ∷ [])) (sym c.byte.ensures) ∙ sym c.is_pair.ensures ∙ c.if-is_pair.true in
    record {
      end_is = ap (λ k. a.at + k) (sym (pair-length s a.at l p));
      decides-is = sym (pair-decides s a.at l p);
      inside = omega (arith, pair-length s a.at l p, piece-room s a.at (omega arith));
    }

pub returns : goal.returns
returns c =
    let a = c.args in
    let s = a.s.now in
    let l = c.requires.1 in
    let p : is_pair (drop a.at s) ≡ false = pair-at s a.at ∙ ap (λ k. is_pair (get_or s a.at 0 ∷ k ∷ [])) (sym c.byte.ensures) ∙ sym c.is_pair.ensures ∙ c.if-is_pair.false in
    record {
      end_is = ap (λ k. a.at + k) (sym (byte-length s a.at l p));
      decides-is = sym (byte-decides s a.at l p);
      inside = omega arith;
    }
