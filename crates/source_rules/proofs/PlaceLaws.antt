-- The definitions seek in the list that begins at a mark or at a word `fn`, and count places from its head. Code seeks in the whole text and
-- counts from its start. Here the one is told by the other, with what a search that was in vain tells of the places behind it.
use Rattle.std.specs.Prelude.{ℕ, zero, suc, ◌+◌, ◌-◌, ◌≤◌, ◌<◌, refl, ◌&&◌, List, [], ◌∷◌, eqb, ltb, length, take, drop, get_or}
use Rattle.std.proofs.Math.Path.{◌≡◌}
use Rattle.std.proofs.Common.{ap, sym, ◌∙◌, subst, inl, inr, add-suc, add-zero, add-one, arith, ltb-false, ltb-true, length-drop, drop-drop}
use Rattle.std.proofs.Math.Option.{Option, none, some}
use Rattle.text_rules.specs.BytesLaws.{whether}
use Rattle.text_rules.specs.Classes.{brace_close, brace_open, round_close, round_open, semicolon, square_close, square_open}
use Rattle.text_rules.specs.Search.{◌and_then◌, count_after, find, part}
use Rattle.text_rules.proofs.SearchLaws.{find-inside}
use Rattle.source_rules.specs.Brackets.{depth_after, partner}
use Rattle.source_rules.proofs.BracketsLaws.{partner-inside}
use Rattle.source_rules.specs.Finding.{Places, angle_after, block_end, body_at, flat, function_from}
use Rattle.source_rules.proofs.FindingLaws.{body-inside}
use Rattle.source_rules.proofs.WalkSteps.{find-end, find-step}

-- a place, counted from n places earlier
abbrev pub moved : ℕ → Option ℕ → Option ℕ
moved n none = none
moved n (some m) = some (n + m)

abbrev pub moved_places : ℕ → Option Places → Option Places
moved_places n none = none
moved_places n (some p) =
    some (record {
      name_from = n + p.name_from;
      name_to = n + p.name_to;
      params_from = n + p.params_from;
      params_to = n + p.params_to;
      body_from = n + p.body_from;
      body_to = n + p.body_to;
    })

pub moved_none : (n : ℕ) (o : Option ℕ) → moved n o ≡ none → o ≡ none
moved_none n none e = refl
moved_none n (some m) e = cc

pub moved-some : (n : ℕ) (o : Option ℕ) (q : ℕ) → moved n o ≡ some q → (m : ℕ) × (o ≡ some m) × (n + m ≡ q)
moved-some n none q e = let z : ◌≡◌ {A = ℕ} 0 1 = cc in absurd (omega arith)
moved-some n (some m) q e = (m, refl, cc)

pub places-none : (n : ℕ) (o : Option Places) → moved_places n o ≡ none → o ≡ none
places-none n none e = refl
places-none n (some p) e = cc

pub places-some : (n : ℕ) (o : Option Places) (q : Places) → moved_places n o ≡ some q → (p : Places) × (o ≡ some p) × (moved_places n (some p) ≡ some q)
places-some n none q e = let z : ◌≡◌ {A = ℕ} 0 1 = cc in absurd (omega arith)
places-some n (some p) q e = (p, refl, e)

pub find-moved : (n x at : ℕ) (s : List ℕ) → find x (n + at) s ≡ moved n (find x at s)
unfolding find
find-moved n x at [] = refl
find-moved n x at (b ∷ s) =
    elim (whether (eqb b x)) [
      | inl t ↦ rw t
      | inr t ↦ rw t (ap (λ k. find x k s) (sym (add-suc n at)) ∙ find-moved n x (suc at) s)
    ]

pub partner-moved : (n o c d at : ℕ) (s : List ℕ) → partner o c d (n + at) s ≡ moved n (partner o c d at s)
unfolding partner
partner-moved n o c d at [] = refl
partner-moved n o c d at (b ∷ s) =
    elim (whether (eqb b c && eqb d 0)) [
      | inl t ↦ rw t
      | inr t ↦ rw t (ap (λ k. partner o c (depth_after o c b d) k s) (sym (add-suc n at)) ∙ partner-moved n o c (depth_after o c b d) (suc at) s)
    ]

pub body-moved : (n angle opened closed at : ℕ) (s : List ℕ) → body_at angle opened closed (n + at) s ≡ moved n (body_at angle opened closed at s)
unfolding body_at
body-moved n angle opened closed at [] = refl
body-moved n angle opened closed at (b ∷ s) =
    elim (whether (flat angle opened closed && eqb b brace_open)) [
      | inl t ↦ rw t
      | inr t ↦
          elim (whether (flat angle opened closed && eqb b semicolon)) [
            | inl u ↦ rw (t, u)
            | inr u ↦
                let a = angle_after b angle in
                let o = count_after square_open b opened in
                let c = count_after square_close b closed in
                rw (t, u) (ap (λ k. body_at a o c k s) (sym (add-suc n at)) ∙ body-moved n a o c (suc at) s)
          ]
    ]

-- the first x of the rest of a text, and of the text from there on
module _ (n : ℕ) (s : List ℕ) where
  pub find-rest : (x at : ℕ) → find x (n + at) (drop (n + at) s) ≡ moved n (find x at (drop at (drop n s)))
  find-rest x at = find-moved n x at (drop (n + at) s) ∙ ap (λ t. moved n (find x at t)) (sym (drop-drop at n s))

  pub partner-rest : (o c at : ℕ) → partner o c 0 (suc (n + at)) (drop (suc (n + at)) s) ≡ moved n (partner o c 0 (suc at) (drop (suc at) (drop n s)))
  partner-rest o c at =
      rw (sym (add-suc n at)) (partner-moved n o c 0 (suc at) (drop (n + suc at) s) ∙ ap (λ t. moved n (partner o c 0 (suc at) t)) (sym (drop-drop (suc at) n s)))

  pub body-rest : (at : ℕ) → body_at 0 0 0 (suc (n + at)) (drop (suc (n + at)) s) ≡ moved n (body_at 0 0 0 (suc at) (drop (suc at) (drop n s)))
  body-rest at =
      rw (sym (add-suc n at)) (body-moved n 0 0 0 (suc at) (drop (n + suc at) s) ∙ ap (λ t. moved n (body_at 0 0 0 (suc at) t)) (sym (drop-drop (suc at) n s)))

  pub part-rest : (from to : ℕ) → part (n + from) (n + to) s ≡ part from to (drop n s)
  part-rest from to =
      let e : n + to - (n + from) ≡ to - from = omega arith in
      rw e (ap (take (to - from)) (sym (drop-drop from n s)))

-- the places of a function whose name and brackets stand at the given ones
abbrev pub places_at : (from to opened closed body end : ℕ) → Places
places_at from to opened closed body end = record { name_from = from; name_to = to; params_from = suc opened; params_to = closed; body_from = body; body_to = suc end }

all_moved : (n from to opened closed body end : ℕ)
    → some (places_at (n + from) (n + to) (n + opened) (n + closed) (n + body) (n + end)) ≡ moved_places n (some (places_at from to opened closed body end))
all_moved n from to opened closed body end = rw (add-suc n opened, add-suc n end)

then-moved : (n : ℕ) (o p : Option ℕ) (k l : ℕ → Option Places) → p ≡ moved n o → ((m : ℕ) → k (n + m) ≡ moved_places n (l m)) → (p and_then k) ≡ moved_places n (o and_then l)
then-moved n none p k l q e = rw q
then-moved n (some m) p k l q e = rw q (e m)

-- what follows each bracket of a function
abbrev after_end : (from to opened closed body end : ℕ) → Option Places
after_end from to opened closed body end = some (places_at from to opened closed body end)

abbrev after_body : List ℕ → (from to opened closed body : ℕ) → Option Places
after_body s from to opened closed body = partner brace_open brace_close 0 (suc body) (drop (suc body) s) and_then after_end from to opened closed body

abbrev after_list : List ℕ → (from to opened closed : ℕ) → Option Places
after_list s from to opened closed = body_at 0 0 0 (suc closed) (drop (suc closed) s) and_then after_body s from to opened closed

abbrev after_opened : List ℕ → (from to opened : ℕ) → Option Places
after_opened s from to opened = partner round_open round_close 0 (suc opened) (drop (suc opened) s) and_then after_list s from to opened

-- the parts of a function after its name
pub function_moved : (n from to : ℕ) (s : List ℕ) → function_from (n + from) (n + to) s ≡ moved_places n (function_from from to (drop n s))
unfolding function_from
function_moved n from to s =
    let t = drop n s in
    then-moved n (find round_open to (drop to t)) _ (after_opened s (n + from) (n + to)) (after_opened t from to) (find-rest n s round_open to)
    λ opened. then-moved n (partner round_open round_close 0 (suc opened) (drop (suc opened) t)) _
    (after_list s (n + from) (n + to) (n + opened)) (after_list t from to opened) (partner-rest n s round_open round_close opened)
    λ closed. then-moved n (body_at 0 0 0 (suc closed) (drop (suc closed) t)) _
    (after_body s (n + from) (n + to) (n + opened) (n + closed)) (after_body t from to opened closed) (body-rest n s closed)
    λ body. then-moved n (partner brace_open brace_close 0 (suc body) (drop (suc body) t)) _
    (after_end (n + from) (n + to) (n + opened) (n + closed) (n + body)) (after_end from to opened closed body) (partner-rest n s brace_open brace_close body)
    λ end. all_moved n from to opened closed body end

-- the first x from a place on is the first from every later place up to it; where there is none, there is none later
later-place : (s : List ℕ) (x n from : ℕ) (o : Option ℕ) → find x from (drop from s) ≡ o → ((m : ℕ) → o ≡ some m → from + n ≤ m) → find x (from + n) (drop (from + n) s) ≡ o
later-place s x zero from o e k = rw (add-zero from) e
later-place s x (suc n) from o e k =
    elim (whether (ltb from (length s))) [
      | inl t ↦
          let h : from < length s = ltb-true from (length s) t in
          elim (whether (eqb (get_or s from 0) x)) [
            | inl u ↦ absurd (omega (arith, k from (sym e ∙ find-step s from h x ∙ rw u)))
            | inr u ↦
                let f : find x from (drop from s) ≡ find x (from + 1) (drop (from + 1) s) = find-step s from h x ∙ rw u in
                let q : from + 1 + n ≡ from + suc n = omega arith in
                subst (λ i. find x i (drop i s) ≡ o) q (later-place s x n (from + 1) o (sym f ∙ e) (λ m g. omega (arith, k m g)))
          ]
      | inr t ↦
          let h : length s ≤ from = ltb-false from (length s) t in
          find-end s (from + suc n) (omega arith) x ∙ sym (find-end s from h x) ∙ e
    ]

pub find-later : (s : List ℕ) (x from to : ℕ) (o : Option ℕ) → find x from (drop from s) ≡ o → from ≤ to → ((m : ℕ) → o ≡ some m → to ≤ m) → find x to (drop to s) ≡ o
find-later s x from to o e h k =
    let q : from + (to - from) ≡ to = omega arith in
    subst (λ i. find x i (drop i s) ≡ o) q (later-place s x (to - from) from o e (λ m g. omega (arith, k m g)))

-- a place that is told stands in the text
module _ (s : List ℕ) (at m : ℕ) where
  pub find-place : (x : ℕ) → find x at (drop at s) ≡ some m → (at ≤ m) × (m < length s)
  find-place x e = omega (arith, find-inside x at (drop at s) m e, length-drop at s)

  pub partner-place : (o c : ℕ) → partner o c 0 at (drop at s) ≡ some m → (at ≤ m) × (m < length s)
  partner-place o c e = omega (arith, partner-inside o c 0 at (drop at s) m e, length-drop at s)

  pub body-place : body_at 0 0 0 at (drop at s) ≡ some m → (at ≤ m) × (m < length s)
  body-place e = omega (arith, body-inside 0 0 0 at (drop at s) m e, length-drop at s)

-- the ways that code goes behind a name that ends at `to`. What is missing there is missing behind every name that ends up to the same (
module _ (s : List ℕ) (to : ℕ) where
  pub no_list : find round_open to (drop to s) ≡ none → (from x : ℕ) → to ≤ x → function_from from x s ≡ none
  unfolding function_from
  no_list e from x h = rw (find-later s round_open to x none e h (λ m q. let z : ◌≡◌ {A = ℕ} 0 1 = cc in absurd (omega arith)))

  module _ (opened : ℕ) (e₁ : find round_open to (drop to s) ≡ some opened) where
    same_list : (x : ℕ) → to ≤ x → x < opened + 1 → find round_open x (drop x s) ≡ some opened
    same_list x h k = find-later s round_open to x (some opened) e₁ h (λ m q. let r : opened ≡ m = cc in omega arith)

    pub open_list : partner round_open round_close 0 (opened + 1) (drop (opened + 1) s) ≡ none → (from x : ℕ) → to ≤ x → x < opened + 1 → function_from from x s ≡ none
    unfolding function_from
    open_list e from x h k = rw (same_list x h k, rw (add-one opened) at e)

    module _ (closed : ℕ) (e₂ : partner round_open round_close 0 (opened + 1) (drop (opened + 1) s) ≡ some closed) where
      pub no_body : body_at 0 0 0 (closed + 1) (drop (closed + 1) s) ≡ none → (from x : ℕ) → to ≤ x → x < opened + 1 → function_from from x s ≡ none
      unfolding function_from
      no_body e from x h k = rw (same_list x h k, rw (add-one opened) at e₂, rw (add-one closed) at e)

      module _ (body : ℕ) (e₃ : body_at 0 0 0 (closed + 1) (drop (closed + 1) s) ≡ some body) where
        pub open_body : partner brace_open brace_close 0 (body + 1) (drop (body + 1) s) ≡ none → (from x : ℕ) → to ≤ x → x < opened + 1 → function_from from x s ≡ none
        unfolding function_from
        open_body e from x h k = rw (same_list x h k, rw (add-one opened) at e₂, rw (add-one closed) at e₃, rw (add-one body) at e)

        pub whole : (end : ℕ) → partner brace_open brace_close 0 (body + 1) (drop (body + 1) s) ≡ some end → (from : ℕ) → function_from from to s ≡ some (places_at from to opened closed body end)
        unfolding function_from
        whole end e from = rw (e₁, rw (add-one opened) at e₂, rw (add-one closed) at e₃, rw (add-one body) at e)

-- the partner of a { at a place, and of the next { from a place on
abbrev pub closing : List ℕ → ℕ → Option ℕ
closing s opened = partner brace_open brace_close 0 (suc opened) (drop (suc opened) s)

abbrev pub block_from : List ℕ → ℕ → Option ℕ
block_from s at = find brace_open at (drop at s) and_then closing s

block-then : (n : ℕ) (o : Option ℕ) (k l : ℕ → Option ℕ) → ((m : ℕ) → k (n + m) ≡ moved n (l m)) → (moved n o and_then k) ≡ moved n (o and_then l)
block-then n none k l e = refl
block-then n (some m) k l e = e m

pub block-moved : (n : ℕ) (s : List ℕ) → block_from s n ≡ moved n (block_end (drop n s))
unfolding block_end
block-moved n s =
    let q : n + 0 ≡ n = add-zero n in
    ap (λ o. o and_then closing s) (subst (λ i. find brace_open i (drop i s) ≡ moved n (find brace_open 0 (drop n s))) q (find-rest n s brace_open 0))
    ∙ block-then n (find brace_open 0 (drop n s)) (closing s) (closing (drop n s)) (λ opened. partner-rest n s brace_open brace_close opened)

-- where the next { is missing, or its partner, there is no block from any later place up to it
module _ (s : List ℕ) (at : ℕ) where
  pub no-brace : find brace_open at (drop at s) ≡ none → (x : ℕ) → at ≤ x → block_from s x ≡ none
  no-brace e x h = rw (find-later s brace_open at x none e h (λ m q. let z : ◌≡◌ {A = ℕ} 0 1 = cc in absurd (omega arith)))

  module _ (opened : ℕ) (e₁ : find brace_open at (drop at s) ≡ some opened) where
    pub open_block : partner brace_open brace_close 0 (opened + 1) (drop (opened + 1) s) ≡ none → (x : ℕ) → at ≤ x → x < opened + 1 → block_from s x ≡ none
    open_block e x h k = rw (find-later s brace_open at x (some opened) e₁ h (λ m q. let r : opened ≡ m = cc in omega arith), rw (add-one opened) at e)

    pub block : (closed : ℕ) → partner brace_open brace_close 0 (opened + 1) (drop (opened + 1) s) ≡ some closed → block_from s at ≡ some closed
    block closed e = rw (e₁, rw (add-one opened) at e)
