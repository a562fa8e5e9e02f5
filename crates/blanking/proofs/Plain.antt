-- Bytes among which no token begins: a token's first byte is a mark, or a letter with a quote or a hash one or two bytes after it.
use mathlib.Core.Path.{◌≡◌, refl}
use mathlib.Core.Logic.{inl, inr}
use mathlib.Core.Bool.{◌&&◌}
use mathlib.Core.List.{List, ◌∷◌}
use Prim.Native.Nat.{ℕ, ◌+◌, ◌≤◌, ◌<◌}
use native.Mathlib.Omega.{arith}
use borrow.Author.Tests.{eqb-true, eqb-false}
use lib.Dec.{eqb}
use lib.ListN.{length, get_or, drop}
use Rattle.text_rules.specs.BytesLaws.{whether}
use Rattle.text_rules.specs.Classes.{letter_b, letter_r}
use Rattle.source_rules.specs.Blank.{hashes, raw_letters, raw_token, token_length}
use Rattle.blanking.specs.Bare.{AllBare, Bare, NoToken}
use Rattle.tokens.proofs.Bodies.{hashes-stop}
use Rattle.tokens.proofs.Rules.{letters_none, letters_one, letters_two, raw_no_letters, raw_no-quote, token_none}

module _ (s : List ℕ) (i p : ℕ) where
  -- the letters of a raw opening end at a bare byte
  raw_bare : (j : ℕ) → j ≡ i + raw_letters (drop i s) → j < length s → Bare (get_or s j 0) → raw_token p (drop i s) ≡ 0
  raw_bare j l h b =
      let z : j ≡ j + hashes (drop j s) = omega (arith, hashes-stop s j h b.no-hash) in
      raw_no-quote s i p j l j z b.no-quote

  module _ (h : i + 2 < length s) (a : Bare (get_or s (i + 1) 0)) (b : Bare (get_or s (i + 2) 0)) where
    raw_not : raw_token p (drop i s) ≡ 0
    raw_not =
        elim (whether (eqb (get_or s i 0) letter_r)) [
          | inl r ↦ raw_bare (i + 1) (omega (arith, letters_one s i (eqb-true (get_or s i 0) letter_r r))) (omega arith) a
          | inr r ↦
              let n = eqb-false (get_or s i 0) letter_r r in
              elim (whether (eqb (get_or s i 0) letter_b && eqb (get_or s (i + 1) 0) letter_r)) [
                | inl t ↦ raw_bare (i + 2) (omega (arith, letters_two s i n t)) h b
                | inr t ↦ raw_no_letters s i p i (omega (arith, letters_none s i n t)) refl
              ]
        ]

    bare_token : Bare (get_or s i 0) → token_length p (drop i s) ≡ 0
    bare_token c = token_none s i p raw_not c.no_slash c.no-quote c.no-apostrophe

module _ (s : List ℕ) (from : ℕ) where
  -- behind each stand two more that are bare
  pub bare_tokens : (last to : ℕ) → last + 2 ≤ to → to ≤ length s → AllBare s from to → NoToken s from last
  bare_tokens last to m h b i k l = bare_token s i (get_or (0 ∷ s) i 0) (omega arith) (b (i + 1) (omega arith) (omega arith)) (b (i + 2) (omega arith) (omega arith)) (b i k (omega arith))
