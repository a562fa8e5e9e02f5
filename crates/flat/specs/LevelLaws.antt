-- A search for a body depends on square brackets only by how many more were opened than closed. So one that comes to a place at the depths of
-- another finds what that one finds.
use Rattle.std.specs.Prelude.{ℕ, suc, ◌+◌, ◌≡◌, refl, ◌&&◌, List, [], ◌∷◌, eqb}
use Rattle.std.proofs.Common.{sym, ◌∙◌, arith, eq-eqb, eqb-true, ne_eqb}
use Rattle.std.proofs.Math.Logic.{inl, inr}
use Rattle.std.proofs.lemmas.Bool.{eqb-false}
use Rattle.text_rules.specs.BytesLaws.{whether}
use Rattle.text_rules.specs.Classes.{brace_open, semicolon, square_close, square_open}
use Rattle.text_rules.specs.Search.{count_after}
use Rattle.source_rules.specs.Finding.{angle_after, body_at, flat}

-- the counts of two searches with the same difference
module _ (opened closed opened' closed' : ℕ) (same : opened + closed' ≡ opened' + closed) where
  same_test : eqb opened closed ≡ eqb opened' closed'
  same_test =
      elim (whether (eqb opened' closed')) [
        | inl t ↦ let e = eqb-true opened' closed' t in eq-eqb opened closed (omega (arith, same, e)) ∙ sym t
        | inr t ↦ ne_eqb opened closed (λ e. eqb-false opened' closed' t (omega (arith, same, e))) ∙ sym t
      ]

  same-flat : (angle : ℕ) → flat angle opened closed ≡ flat angle opened' closed'
  unfolding flat
  same-flat angle = rw same_test

  same-behind : (b : ℕ) → count_after square_open b opened + count_after square_close b closed' ≡ count_after square_open b opened' + count_after square_close b closed
  unfolding count_after
  same-behind b =
      elim (whether (eqb b square_open)) [
        | inl o ↦ elim (whether (eqb b square_close)) [ inl c ↦ rw (o, c) (omega (arith, same)) | inr c ↦ rw (o, c) (omega (arith, same)) ]
        | inr o ↦ elim (whether (eqb b square_close)) [ inl c ↦ rw (o, c) (omega (arith, same)) | inr c ↦ rw (o, c) (omega (arith, same)) ]
      ]

pub body_same : (t : List ℕ) (angle opened closed opened' closed' at : ℕ) → opened + closed' ≡ opened' + closed → body_at angle opened closed at t ≡ body_at angle opened' closed' at t
unfolding body_at
body_same [] angle opened closed opened' closed' at e = refl
body_same (b ∷ t) angle opened closed opened' closed' at e =
    let again =
    body_same t (angle_after b angle) (count_after square_open b opened) (count_after square_close b closed) (count_after square_open b opened') (count_after square_close b closed') (suc at)
    (same-behind opened closed opened' closed' e b) in
    rw (same-flat opened closed opened' closed' e angle)
    (elim (whether (flat angle opened' closed' && eqb b brace_open)) [
      | inl k ↦ rw k
      | inr k ↦ elim (whether (flat angle opened' closed' && eqb b semicolon)) [ inl j ↦ rw (k, j) | inr j ↦ rw (k, j) again ]
    ])
