-- Where the parts of a function that is found stand.
use Rattle.std.specs.Prelude.{ℕ, zero, suc, ◌+◌, ◌-◌, ◌≤◌, ◌<◌, ◌≡◌, refl, true, false, ◌&&◌, List, [], ◌∷◌, eqb, ltb, length, drop, get_or}
use Rattle.std.proofs.Common.{ap, sym, ◌∙◌, subst, inl, inr, arith, length-drop, get_or-drop, eqb-true, ltb-true}
use Rattle.std.proofs.Math.Option.{none, some}
use Rattle.text_rules.specs.BytesLaws.{and_right, some_same, whether}
use Rattle.text_rules.specs.Classes.{brace_close, brace_open, round_close, round_open, semicolon, square_close, square_open}
use Rattle.text_rules.specs.Search.{count_after, find}
use Rattle.text_rules.proofs.SearchLaws.{PlaceIn, and_then-some, find-inside}
use Rattle.source_rules.specs.Brackets.{partner}
use Rattle.source_rules.proofs.BracketsLaws.{partner-inside}
use Rattle.source_rules.specs.Finding.{Places, angle_after, body_at, flat, function_at, function_from, name_end, name_start}

pub body-inside : (angle opened closed at : ℕ) (s : List ℕ) (m : ℕ) → body_at angle opened closed at s ≡ some m → PlaceIn at m s
unfolding body_at
body-inside angle opened closed at [] m e = let z : ◌≡◌ {A = ℕ} 0 1 = cc in absurd (omega arith)
body-inside angle opened closed at (b ∷ s) m e =
    elim (whether (flat angle opened closed && eqb b brace_open)) [
      | inl t ↦ let h : some at ≡ some m = rw t at e in let q : at ≡ m = cc in omega arith
      | inr t ↦
          elim (whether (flat angle opened closed && eqb b semicolon)) [
            | inl u ↦ let h : none ≡ some m = rw (t, u) at e in let z : ◌≡◌ {A = ℕ} 0 1 = cc in absurd (omega arith)
            | inr u ↦ omega (arith, body-inside (angle_after b angle) (count_after square_open b opened) (count_after square_close b closed) (suc at) s m (rw (t, u) at e))
          ]
    ]

-- and is a {
pub body-brace : (angle opened closed at : ℕ) (s : List ℕ) (k : ℕ) → body_at angle opened closed at s ≡ some (at + k) → get_or s k 0 ≡ brace_open
unfolding body_at
body-brace angle opened closed at [] k e = let z : ◌≡◌ {A = ℕ} 0 1 = cc in absurd (omega arith)
body-brace angle opened closed at (b ∷ s) zero e =
    elim (whether (flat angle opened closed && eqb b brace_open)) [
      | inl t ↦ eqb-true b brace_open (and_right (flat angle opened closed) _ t)
      | inr t ↦
          elim (whether (flat angle opened closed && eqb b semicolon)) [
            | inl u ↦ let h : none ≡ some (at + 0) = rw (t, u) at e in let z : ◌≡◌ {A = ℕ} 0 1 = cc in absurd (omega arith)
            | inr u ↦ absurd (omega (arith, body-inside (angle_after b angle) (count_after square_open b opened) (count_after square_close b closed) (suc at) s (at + 0) (rw (t, u) at e)))
          ]
    ]
body-brace angle opened closed at (b ∷ s) (suc k) e =
    elim (whether (flat angle opened closed && eqb b brace_open)) [
      | inl t ↦ let h : some at ≡ some (at + suc k) = rw t at e in let q : at ≡ at + suc k = cc in absurd (omega arith)
      | inr t ↦
          elim (whether (flat angle opened closed && eqb b semicolon)) [
            | inl u ↦ let h : none ≡ some (at + suc k) = rw (t, u) at e in let z : ◌≡◌ {A = ℕ} 0 1 = cc in absurd (omega arith)
            | inr u ↦
                let q : at + suc k ≡ suc at + k = omega arith in
                body-brace (angle_after b angle) (count_after square_open b opened) (count_after square_close b closed) (suc at) s k (rw (t, u, q) at e)
          ]
    ]

-- what holds of the places of a function
pub record Sound (s : List ℕ) (p : Places) : Type 0 where
  pub name-from : p.name_from ≡ name_start s
  pub name-to : p.name_to ≡ name_end s
  pub name-some : p.name_from < p.name_to
  pub name-first : p.name_to < p.params_from
  pub params-order : p.params_from ≤ p.params_to
  pub params-first : p.params_to < p.body_from
  pub inside : p.body_to ≤ length s
  pub brace : get_or s p.body_from 0 ≡ brace_open
  -- the } of the body, counted from the byte behind its {
  pub size : ℕ
  pub body-size : p.body_to ≡ p.body_from + 2 + size
  pub closes : partner brace_open brace_close 0 (suc p.body_from) (drop (suc p.body_from) s) ≡ some (suc p.body_from + size)

found_at : (s : List ℕ) (opened closed body end : ℕ) → name_start s < name_end s
    → find round_open (name_end s) (drop (name_end s) s) ≡ some opened
    → partner round_open round_close 0 (suc opened) (drop (suc opened) s) ≡ some closed
    → body_at 0 0 0 (suc closed) (drop (suc closed) s) ≡ some body
    → partner brace_open brace_close 0 (suc body) (drop (suc body) s) ≡ some end
    → Sound s (record { name_from = name_start s; name_to = name_end s; params_from = suc opened; params_to = closed; body_from = body; body_to = suc end })
found_at s opened closed body end h e₁ e₂ e₃ e₄ =
    let in₁ = find-inside round_open (name_end s) (drop (name_end s) s) opened e₁ in
    let in₂ = partner-inside round_open round_close 0 (suc opened) (drop (suc opened) s) closed e₂ in
    let in₃ = body-inside 0 0 0 (suc closed) (drop (suc closed) s) body e₃ in
    let in₄ = partner-inside brace_open brace_close 0 (suc body) (drop (suc body) s) end e₄ in
    let l₄ = length-drop (suc body) s in
    let q : body ≡ suc closed + (body - suc closed) = omega arith in
    let r : suc closed + (body - suc closed) ≡ body = omega arith in
    let z : end ≡ suc body + (end - suc body) = omega arith in
    let b : get_or (drop (suc closed) s) (body - suc closed) 0 ≡ brace_open = body-brace 0 0 0 (suc closed) (drop (suc closed) s) (body - suc closed) (e₃ ∙ ap some q) in
    record {
      name-from = refl;
      name-to = refl;
      name-some = h;
      name-first = omega arith;
      params-order = omega arith;
      params-first = omega arith;
      inside = omega arith;
      brace = ap (λ i. get_or s i 0) (sym r) ∙ sym (get_or-drop (suc closed) s (body - suc closed) 0) ∙ b;
      size = end - suc body;
      body-size = omega arith;
      closes = e₄ ∙ ap some z;
    }

pub found-sound : (s : List ℕ) (p : Places) → function_at s ≡ some p → Sound s p
unfolding function_at function_from
found-sound s p e =
    elim (whether (ltb (name_start s) (name_end s))) [
      | inl t ↦
          let (opened, e₁, r₁) = and_then-some (find round_open (name_end s) (drop (name_end s) s)) _ p (rw t at e) in
          let (closed, e₂, r₂) = and_then-some (partner round_open round_close 0 (suc opened) (drop (suc opened) s)) _ p r₁ in
          let (body, e₃, r₃) = and_then-some (body_at 0 0 0 (suc closed) (drop (suc closed) s)) _ p r₂ in
          let (end, e₄, r₄) = and_then-some (partner brace_open brace_close 0 (suc body) (drop (suc body) s)) _ p r₃ in
          subst (Sound s) (some_same _ p r₄) (found_at s opened closed body end (ltb-true (name_start s) (name_end s) t) e₁ e₂ e₃ e₄)
      | inr t ↦ let h : none ≡ some p = rw t at e in let z : ◌≡◌ {A = ℕ} 0 1 = cc in absurd (omega arith)
    ]

-- the ways that code goes through a function: what is missing, or that nothing is
module _ (s : List ℕ) where
  pub function_nameless : ltb (name_start s) (name_end s) ≡ false → function_at s ≡ none
  unfolding function_at
  function_nameless t = rw t

  module _ (named : ltb (name_start s) (name_end s) ≡ true) where
    pub function_no_list : find round_open (name_end s) (drop (name_end s) s) ≡ none → function_at s ≡ none
    unfolding function_at function_from
    function_no_list e = rw (named, e)

    module _ (opened : ℕ) (e₁ : find round_open (name_end s) (drop (name_end s) s) ≡ some opened) where
      pub function_open_list : partner round_open round_close 0 (suc opened) (drop (suc opened) s) ≡ none → function_at s ≡ none
      unfolding function_at function_from
      function_open_list e = rw (named, e₁, e)

      module _ (closed : ℕ) (e₂ : partner round_open round_close 0 (suc opened) (drop (suc opened) s) ≡ some closed) where
        pub function_no-body : body_at 0 0 0 (suc closed) (drop (suc closed) s) ≡ none → function_at s ≡ none
        unfolding function_at function_from
        function_no-body e = rw (named, e₁, e₂, e)

        module _ (body : ℕ) (e₃ : body_at 0 0 0 (suc closed) (drop (suc closed) s) ≡ some body) where
          pub function_open_body : partner brace_open brace_close 0 (suc body) (drop (suc body) s) ≡ none → function_at s ≡ none
          unfolding function_at function_from
          function_open_body e = rw (named, e₁, e₂, e₃, e)

          pub function_found : (end : ℕ) → partner brace_open brace_close 0 (suc body) (drop (suc body) s) ≡ some end
              → function_at s ≡ some (record { name_from = name_start s; name_to = name_end s; params_from = suc opened; params_to = closed; body_from = body; body_to = suc end })
          unfolding function_at function_from
          function_found end e = rw (named, e₁, e₂, e₃, e)
