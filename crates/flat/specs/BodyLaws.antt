-- The search for a body past a byte.
use Rattle.std.specs.Prelude.{ℕ, ◌<◌, ◌+◌, ◌-◌, ◌≡◌, ◌⊎◌, ◌≢◌, false, List, length, drop, get_or}
use Rattle.std.proofs.Common.{◌∙◌, inl, inr, arith, ne_eqb}
use Rattle.std.proofs.Math.Bool.{and-false}
use Rattle.std.proofs.Math.Numerals.{add-one, sub-one}
use Rattle.text_rules.specs.Classes.{angle_close, angle_open, brace_open, semicolon, square_close, square_open}
use Rattle.text_rules.specs.Search.{count_after}
use Rattle.source_rules.specs.Finding.{angle_after, body_at, flat}
use Rattle.source_rules.proofs.WalkSteps.{body-step}
use Rattle.flat.specs.Body.{Plain}

-- past a byte that ends nothing
pub passed : (s : List ℕ) (angle opened closed at : ℕ) → at < length s → (flat angle opened closed ≡ false) ⊎ ((get_or s at 0 ≢ brace_open) × (get_or s at 0 ≢ semicolon))
    → body_at angle opened closed at (drop at s)
    ≡ body_at (angle_after (get_or s at 0) angle) (count_after square_open (get_or s at 0) opened) (count_after square_close (get_or s at 0) closed) (at + 1) (drop (at + 1) s)
passed s angle opened closed at h (inl e) = body-step s at h angle opened closed ∙ rw e
passed s angle opened closed at h (inr (m, n)) = body-step s at h angle opened closed ∙ rw (ne_eqb _ brace_open m, ne_eqb _ semicolon n, and-false (flat angle opened closed))

-- past a plain byte nothing changes
pub plain-passed : (s : List ℕ) (angle opened closed at : ℕ) → at < length s → Plain (get_or s at 0) → body_at angle opened closed at (drop at s) ≡ body_at angle opened closed (at + 1) (drop (at + 1) s)
unfolding angle_after count_after
plain-passed s angle opened closed at h p =
    let e = passed s angle opened closed at h (inr (p.0, p.1)) in
    rw (ne_eqb _ angle_open p.2, ne_eqb _ angle_close p.3, ne_eqb _ square_open p.4, ne_eqb _ square_close p.5) at e

-- past each byte that is counted, and past one that would end the search at depth 0
module _ (s : List ℕ) (angle opened closed at : ℕ) (h : at < length s) where
  pub past_angle_open : get_or s at 0 ≡ angle_open → body_at angle opened closed at (drop at s) ≡ body_at (angle + 1) opened closed (at + 1) (drop (at + 1) s)
  unfolding angle_after count_after
  past_angle_open e = passed s angle opened closed at h (inr (λ k. omega (arith, e, k), λ k. omega (arith, e, k))) ∙ rw (e, add-one angle)

  pub past_angle_close : get_or s at 0 ≡ angle_close → body_at angle opened closed at (drop at s) ≡ body_at (angle - 1) opened closed (at + 1) (drop (at + 1) s)
  unfolding angle_after count_after
  past_angle_close e = passed s angle opened closed at h (inr (λ k. omega (arith, e, k), λ k. omega (arith, e, k))) ∙ rw (e, sub-one angle)

  pub past_square_open : get_or s at 0 ≡ square_open → body_at angle opened closed at (drop at s) ≡ body_at angle (opened + 1) closed (at + 1) (drop (at + 1) s)
  unfolding angle_after count_after
  past_square_open e = passed s angle opened closed at h (inr (λ k. omega (arith, e, k), λ k. omega (arith, e, k))) ∙ rw (e, add-one opened)

  pub past_square_close : get_or s at 0 ≡ square_close → body_at angle opened closed at (drop at s) ≡ body_at angle opened (closed + 1) (at + 1) (drop (at + 1) s)
  unfolding angle_after count_after
  past_square_close e = passed s angle opened closed at h (inr (λ k. omega (arith, e, k), λ k. omega (arith, e, k))) ∙ rw (e, add-one closed)

  pub past-brace : get_or s at 0 ≡ brace_open → flat angle opened closed ≡ false → body_at angle opened closed at (drop at s) ≡ body_at angle opened closed (at + 1) (drop (at + 1) s)
  unfolding angle_after count_after
  past-brace e f = passed s angle opened closed at h (inl f) ∙ rw e

  pub past-semicolon : get_or s at 0 ≡ semicolon → flat angle opened closed ≡ false → body_at angle opened closed at (drop at s) ≡ body_at angle opened closed (at + 1) (drop (at + 1) s)
  unfolding angle_after count_after
  past-semicolon e f = passed s angle opened closed at h (inl f) ∙ rw e
