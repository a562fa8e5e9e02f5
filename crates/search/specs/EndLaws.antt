-- Brackets that have no partner, and searches for a body behind the last brace.
use Prim.Native.Nat.{ℕ, suc, zero, pred, ◌+◌, ◌≤◌}
use Rattle.std.specs.Prelude.{◌≡◌, ◌≢◌, ◌&&◌, drop, get_or}
use Rattle.std.proofs.Math.Path.{refl}
use Rattle.std.proofs.Common.{sym, ◌∙◌, arith, get_or-drop}
use Rattle.std.proofs.Math.Logic.{inl, inr}
use Rattle.std.proofs.Math.Bool.{false, and-false}
use mathlib.Core.List.{List, [], ◌∷◌}
use Rattle.std.proofs.Math.Option.{none, some}
use borrow.Author.Tests.{ne_eqb}
use Rattle.std.proofs.Math.Dec.{eqb}
use Rattle.text_rules.specs.BytesLaws.{whether}
use Rattle.text_rules.specs.Classes.{brace_open, semicolon, square_close, square_open}
use Rattle.text_rules.specs.Search.{count_after}
use Rattle.source_rules.specs.Brackets.{depth_after, partner}
use Rattle.source_rules.specs.Finding.{angle_after, body_at, flat}
use Rattle.search.specs.Place.{Absent}

-- a place is not none
pub none-some : (n : ℕ) → ◌≡◌ (some n) none → ⊥
none-some n e = let z : ◌≡◌ {A = ℕ} 0 1 = cc in absurd (omega arith)

module _ (opening closing : ℕ) where
  none-closes : (t : List ℕ) (depth at : ℕ) → ((k : ℕ) → get_or t k 0 ≢ closing) → partner opening closing depth at t ≡ none
  unfolding partner
  none-closes [] depth at h = refl
  none-closes (b ∷ t) depth at h = rw (ne_eqb b closing (h 0)) (none-closes t (depth_after opening closing b depth) (suc at) (λ k. h (suc k)))

  -- a bracket behind the last closing one has no partner
  pub no-partner : (s : List ℕ) (last from depth : ℕ) → Absent closing s last → last ≤ from → partner opening closing depth from (drop from s) ≡ none
  unfolding Absent
  no-partner s last from depth h i =
      none-closes (drop from s) depth from (λ k e. h (from + k) (omega arith) (sym (get_or-drop from s k 0) ∙ e))

  pred_more : (m d : ℕ) → m ≤ d → pred m ≤ pred d
  pred_more zero d h = omega arith
  pred_more (suc m) zero h = absurd (omega arith)
  pred_more (suc m) (suc d) h = omega arith

  depth-more : (b m d : ℕ) → m ≤ d → depth_after opening closing b m ≤ depth_after opening closing b d
  unfolding depth_after
  depth-more b m d h =
      elim (whether (eqb b opening)) [
        | inl o ↦ rw o (omega arith)
        | inr o ↦ elim (whether (eqb b closing)) [ inl k ↦ rw (o, k) (pred_more m d h) | inr k ↦ rw (o, k) h ]
      ]

  -- where a bracket has no partner, one with more open inside it has none either
  pub partner-more : (t : List ℕ) (m d at : ℕ) → m ≤ d → partner opening closing m at t ≡ none → partner opening closing d at t ≡ none
  unfolding partner
  partner-more [] m d at h e = refl
  partner-more (b ∷ t) zero d at h e =
      elim (whether (eqb b closing)) [
        | inl k ↦ absurd (none-some at (rw k at e))
        | inr k ↦ rw k (partner-more t (depth_after opening closing b 0) (depth_after opening closing b d) (suc at) (depth-more b 0 d h) (rw k at e))
      ]
  partner-more (b ∷ t) (suc m) zero at h e = absurd (omega arith)
  partner-more (b ∷ t) (suc m) (suc d) at h e =
      let again : partner opening closing (depth_after opening closing b (suc m)) (suc at) t ≡ none → partner opening closing (depth_after opening closing b (suc d)) (suc at) t ≡ none =
      partner-more t (depth_after opening closing b (suc m)) (depth_after opening closing b (suc d)) (suc at) (depth-more b (suc m) (suc d) h) in
      let some-open : (n : ℕ) → eqb (suc n) 0 ≡ false = λ n. ne_eqb (suc n) 0 (λ z. omega arith) in
      elim (whether (eqb b closing)) [ inl k ↦ rw (k, some-open d) (again (rw (k, some-open m) at e)) | inr k ↦ rw k (again (rw k at e)) ]

none-opens : (t : List ℕ) (angle opened closed at : ℕ) → ((k : ℕ) → get_or t k 0 ≢ brace_open) → body_at angle opened closed at t ≡ none
unfolding body_at
none-opens [] angle opened closed at h = refl
none-opens (b ∷ t) angle opened closed at h =
    rw (ne_eqb b brace_open (h 0), and-false (flat angle opened closed))
    (elim (whether (flat angle opened closed && eqb b semicolon)) [
      | inl k ↦ rw k
      | inr k ↦ rw k (none-opens t (angle_after b angle) (count_after square_open b opened) (count_after square_close b closed) (suc at) (λ i. h (suc i)))
    ])

-- behind the last brace there is no body
pub no_body : (s : List ℕ) (last from angle opened closed : ℕ) → Absent brace_open s last → last ≤ from → body_at angle opened closed from (drop from s) ≡ none
unfolding Absent
no_body s last from angle opened closed h i =
    none-opens (drop from s) angle opened closed from (λ k e. h (from + k) (omega arith) (sym (get_or-drop from s k 0) ∙ e))
