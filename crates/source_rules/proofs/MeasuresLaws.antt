-- Bounds of the measures. Cyclomatic is at least 1 and less than the body's byte count; twice the nesting is at most that count.
use Rattle.std.specs.Prelude.{ℕ, zero, suc, pred, ◌+◌, ◌*◌, ◌≤◌, ◌<◌, max, ◌≡◌, refl, Bool, true, false, ◌&&◌, List, [], ◌∷◌, eqb, length, take}
use Rattle.std.proofs.Common.{ap, sym, ◌∙◌, subst, inl, inr, arith, length-take, eqb-true}
use Rattle.std.proofs.Math.Option.{some}
use Rattle.std.proofs.lemmas.Bool.{eqb-false}
use Rattle.text_rules.specs.Bytes.{if◌then◌otherwise◌}
use Rattle.text_rules.specs.BytesLaws.{and_left, and_right, whether}
use Rattle.text_rules.specs.Classes.{brace_close, brace_open, comma, is_letter, lf}
use Rattle.text_rules.specs.Search.{count_after, ends_in, opens}
use Rattle.text_rules.proofs.SearchLaws.{part-short}
use Rattle.text_rules.specs.WhiteSpace.{text_end, trimmed, white_end}
use Rattle.source_rules.specs.Brackets.{depth_after, partner}
use Rattle.source_rules.proofs.BracketsLaws.{depth_close, depth_open, depth-other, partner-ends, partner-inside}
use Rattle.source_rules.specs.Measures.{cyclomatic_from, cyclomatic_of, decides, deepest, is_pair, line_at, lines_of, nesting_of, piece_length}
use Rattle.source_rules.specs.Parameters.{counted, is_closing, is_opening, params_of, parts_from}

more : (b : Bool) (n : ℕ) → (n ≤ (if b then suc n otherwise n)) × ((if b then suc n otherwise n) ≤ suc n)
more true n = omega arith
more false n = omega arith

pub count-after : (x b n : ℕ) → (n ≤ count_after x b n) × (count_after x b n ≤ suc n)
unfolding count_after
count-after x b n = more (eqb b x) n

-- lines
pub line-at : (n : ℕ) (s : List ℕ) → (n ≤ line_at n s) × (line_at n s ≤ n + length s)
unfolding line_at
line-at n [] = omega arith
line-at n (b ∷ s) = omega (arith, line-at (count_after lf b n) s, count-after lf b n)

-- cyclomatic
pub cyclomatic-from : (n skip_left : ℕ) (s : List ℕ) → (n ≤ cyclomatic_from n skip_left s) × (cyclomatic_from n skip_left s ≤ n + length s)
unfolding cyclomatic_from
cyclomatic-from n skip_left [] = omega arith
cyclomatic-from n (suc skip_left) (b ∷ s) = omega (arith, cyclomatic-from n skip_left s)
cyclomatic-from n zero (b ∷ s) =
    omega (arith, cyclomatic-from (if decides (b ∷ s) then suc n otherwise n) (pred (piece_length (b ∷ s))) s, more (decides (b ∷ s)) n)

-- a } adds nothing
brace-last : (b : ℕ) → eqb b brace_close ≡ true → decides (b ∷ []) ≡ false
unfolding decides is_pair opens is_letter
brace-last b t = rw (eqb-true b brace_close t)

cyclomatic-ends : (n skip_left : ℕ) (s : List ℕ) → ends_in brace_close s ≡ true → suc (cyclomatic_from n skip_left s) ≤ n + length s
unfolding cyclomatic_from ends_in
cyclomatic-ends n skip_left [] e = let z : ◌≡◌ {A = ℕ} 0 1 = cc in absurd (omega arith)
cyclomatic-ends n (suc skip_left) (b ∷ []) e = omega arith
cyclomatic-ends n zero (b ∷ []) e = rw (brace-last b e) (omega arith)
cyclomatic-ends n (suc skip_left) (b ∷ c ∷ s) e = omega (arith, cyclomatic-ends n skip_left (c ∷ s) e)
cyclomatic-ends n zero (b ∷ c ∷ s) e =
    omega (arith, cyclomatic-ends (if decides (b ∷ c ∷ s) then suc n otherwise n) (pred (piece_length (b ∷ c ∷ s))) (c ∷ s) e, more (decides (b ∷ c ∷ s)) n)

-- and neither does a {
cyclomatic-brace : (n : ℕ) (s : List ℕ) → cyclomatic_from n 0 (brace_open ∷ s) ≡ cyclomatic_from n 0 s
unfolding cyclomatic_from decides piece_length is_pair opens is_letter
cyclomatic-brace n s = refl

-- nesting
not_open : (b : ℕ) → eqb b brace_close ≡ true → eqb b brace_open ≡ false
not_open b t = rw (eqb-true b brace_close t)

-- brace depth inside a body, and how many braces are open beside the body's own, go along
depth-step : (b d : ℕ) → (eqb b brace_close && eqb d 0) ≡ false → depth_after brace_open brace_close b (suc d) ≡ suc (depth_after brace_open brace_close b d)
depth-step b d t =
    elim (whether (eqb b brace_open)) [
      | inl u ↦ depth_open brace_open brace_close b (suc d) u ∙ ap suc (sym (depth_open brace_open brace_close b d u))
      | inr u ↦
          elim (whether (eqb b brace_close)) [
            | inl v ↦
                let z : eqb d 0 ≡ false = rw v at t in
                let some-d : d ≡ 0 → ⊥ = eqb-false d 0 z in
                omega (arith, depth_close brace_open brace_close b (suc d) u v, depth_close brace_open brace_close b d u v, some-d)
            | inr v ↦ depth-other brace_open brace_close b (suc d) u v ∙ ap suc (sym (depth-other brace_open brace_close b d u v))
          ]
    ]

depth-most : (o c b d : ℕ) → depth_after o c b d ≤ suc d
unfolding depth_after
depth-most o c b d =
    elim (whether (eqb b o)) [
      | inl t ↦ omega (arith, depth_open o c b d t)
      | inr t ↦ elim (whether (eqb b c)) [ inl u ↦ omega (arith, depth_close o c b d t u) | inr u ↦ omega (arith, depth-other o c b d t u) ]
    ]

deepest-most : (top reached d at : ℕ) (s : List ℕ) (k : ℕ) → partner brace_open brace_close d at s ≡ some (at + k)
    → 2 * reached ≤ top → suc k + suc d ≤ top → 2 * deepest reached (suc d) (take (suc k) s) ≤ top
unfolding partner deepest
deepest-most top reached d at [] k e h l = let z : ◌≡◌ {A = ℕ} 0 1 = cc in absurd (omega arith)
deepest-most top reached d at (b ∷ s) zero e h l =
    elim (whether (eqb b brace_close && eqb d 0)) [
      | inl t ↦
          let v : eqb b brace_close ≡ true = and_left _ _ t in
          let z : d ≡ 0 = eqb-true d 0 (and_right (eqb b brace_close) _ t) in
          omega (arith, depth_close brace_open brace_close b (suc d) (not_open b v) v)
      | inr t ↦ absurd (omega (arith, partner-inside brace_open brace_close (depth_after brace_open brace_close b d) (suc at) s (at + 0) (rw t at e)))
    ]
deepest-most top reached d at (b ∷ s) (suc k) e h l =
    elim (whether (eqb b brace_close && eqb d 0)) [
      | inl t ↦ let w : some at ≡ some (at + suc k) = rw t at e in let q : at ≡ at + suc k = cc in absurd (omega arith)
      | inr t ↦
          let d' = depth_after brace_open brace_close b d in
          let q : at + suc k ≡ suc at + k = omega arith in
          let r : partner brace_open brace_close d' (suc at) s ≡ some (suc at + k) = rw (t, q) at e in
          let i = partner-inside brace_open brace_close d' (suc at) s (suc at + k) r in
          let m = depth-most brace_open brace_close b d in
          subst (λ x. 2 * deepest (max reached x) x (take (suc k) s) ≤ top) (sym (depth-step b d t)) (deepest-most top (max reached (suc d')) d' (suc at) s k r (omega arith) (omega arith))
    ]

pub deepest-least : (reached depth : ℕ) (s : List ℕ) → reached ≤ deepest reached depth s
unfolding deepest
deepest-least reached depth [] = omega arith
deepest-least reached depth (b ∷ s) = omega (arith, deepest-least (max reached (depth_after brace_open brace_close b depth)) (depth_after brace_open brace_close b depth) s)

-- parameters
pub parts_from_lem : (n opened closed : ℕ) (s : List ℕ) → (n ≤ parts_from n opened closed s) × (parts_from n opened closed s ≤ n + length s)
unfolding parts_from
parts_from_lem n opened closed [] = omega arith
parts_from_lem n opened closed (b ∷ s) =
    omega (
      arith,
      parts_from_lem (if eqb b comma && eqb opened closed then suc n otherwise n) (if is_opening b then suc opened otherwise opened) (if is_closing b then suc closed otherwise closed) s,
      more (eqb b comma && eqb opened closed) n,
    )

counted-most : (s : List ℕ) → counted s ≤ suc (length s)
counted-most [] = omega arith
counted-most (b ∷ s) = omega (arith, parts_from_lem 1 0 0 (b ∷ s))

pub params-most : (s : List ℕ) → params_of s ≤ suc (length s)
unfolding params_of trimmed
params-most s = omega (arith, counted-most (trimmed s), part-short (white_end 0 0 s) (text_end 0 0 0 s) s)

-- what holds of a body: a { and what follows it through its partner
module _ (t : List ℕ) (at k : ℕ) (e : partner brace_open brace_close 0 at t ≡ some (at + k)) where
  pub body-length : length (brace_open ∷ take (suc k) t) ≡ suc (suc k)
  body-length = simp length-take (omega (arith, partner-inside brace_open brace_close 0 at t (at + k) e))

  pub body-cyclomatic : (1 ≤ cyclomatic_of (brace_open ∷ take (suc k) t)) × (cyclomatic_of (brace_open ∷ take (suc k) t) < length (brace_open ∷ take (suc k) t))
  unfolding cyclomatic_of
  body-cyclomatic =
      rw (cyclomatic-brace 1 (take (suc k) t))
      (omega (arith, cyclomatic-from 1 0 (take (suc k) t), cyclomatic-ends 1 0 (take (suc k) t) (partner-ends 123 125 0 at t k e)))

  pub body-nesting : (1 ≤ nesting_of (brace_open ∷ take (suc k) t)) × (2 * nesting_of (brace_open ∷ take (suc k) t) ≤ length (brace_open ∷ take (suc k) t))
  unfolding nesting_of deepest depth_after
  body-nesting = (
    deepest-least 1 1 (take (suc k) t),
    rw body-length (deepest-most (suc (suc k)) 1 0 at t k e (omega arith) (omega arith)),
  )

  pub body-lines : (1 ≤ lines_of (brace_open ∷ take (suc k) t)) × (lines_of (brace_open ∷ take (suc k) t) ≤ length (brace_open ∷ take (suc k) t))
  unfolding lines_of line_at count_after
  body-lines = omega (arith, line-at 1 (take (suc k) t))
