-- The next element by its number, where the number of all elements stands for none: what a loop that goes through them has chosen, and what one that
-- takes one after another has still to take.
use Rattle.std.specs.Prelude.{ℕ, zero, suc, ◌+◌, ◌≤◌, ◌<◌, ◌⊎◌, Bool, true, false, eqb, ltb, length, take, get_or}
use Rattle.std.proofs.Math.Path.{◌≡◌, refl, ap}
use Rattle.std.proofs.Common.{subst, sym, ◌∙◌, inl, inr, arith, add-one, drop_of_length-le, eq-eqb, ltb-false, ne_eqb}
use mathlib.Core.List.{List, [], ◌∷◌, ◌++◌, map}
use Rattle.std.proofs.Math.Option.{Option, none, some}
use Rattle.std.proofs.Math.ListN.{drop}
use Rattle.text_rules.specs.ByteOrder.{Orders}
use Rattle.text_rules.specs.Bytes.{if◌then◌otherwise◌, kept}
use Rattle.text_rules.specs.BytesLaws.{true_false, whether}
use Rattle.text_rules.specs.Order.{sort}
use Rattle.text_rules.specs.Selection.{Placed, ahead, placed_from}
use Rattle.order.specs.Best.{After, Best, best_better, best_first, best_unfit, best_worse, head_of, last_of}
use Rattle.order.specs.Picks.{ahead-less, ahead_trans, behind_more, next_pick, picks, picks-what, placed, seen_all, seen_next}

-- what is true or false as the Boolean says
pub record Decides (P : Type 0) (b : Bool) : Type 0 where
  pub yes : b ≡ true → P
  pub no : b ≡ false → P → ⊥

pub always : {P : Type 0} → P → Decides P true
always p = record { yes = λ h. p; no = λ h. absurd (true_false true refl h) }

pub never : {P : Type 0} → (P → ⊥) → Decides P false
never n = record { yes = λ h. absurd (true_false false h refl); no = λ h. n }

-- the element behind the first t ones
module _ {B : Type 0} where
  abbrev or_else : B → Option B → B
  or_else x none = x
  or_else x (some y) = y

  rest_of : (ps : List B) (t : ℕ) (p : B) → head_of (drop t ps) ≡ some p → drop t ps ≡ p ∷ drop (suc t) ps
  rest_of [] zero p h = let z : ◌≡◌ {A = ℕ} 0 1 = cc in absurd (omega arith)
  rest_of [] (suc t) p h = let z : ◌≡◌ {A = ℕ} 0 1 = cc in absurd (omega arith)
  rest_of (x ∷ ps) zero p h = ap (λ q. q ∷ ps) (ap (or_else x) h)
  rest_of (x ∷ ps) (suc t) p h = rest_of ps t p h

  last_of_lem : (ps : List B) (t : ℕ) (p : B) → head_of (drop t ps) ≡ some p → last_of (take (suc t) ps) ≡ some p
  last_of_lem [] zero p h = let z : ◌≡◌ {A = ℕ} 0 1 = cc in absurd (omega arith)
  last_of_lem [] (suc t) p h = let z : ◌≡◌ {A = ℕ} 0 1 = cc in absurd (omega arith)
  last_of_lem (x ∷ ps) zero p h = h
  last_of_lem (x ∷ []) (suc zero) p h = let z : ◌≡◌ {A = ℕ} 0 1 = cc in absurd (omega arith)
  last_of_lem (x ∷ []) (suc (suc t)) p h = let z : ◌≡◌ {A = ℕ} 0 1 = cc in absurd (omega arith)
  last_of_lem (x ∷ y ∷ ps) (suc t) p h = last_of_lem (y ∷ ps) t p h

module _ {A : Type 0} (less : A → A → Bool) (orders : Orders less) (d : A) (xs : List A) where
  -- the element with a number
  abbrev pub item : ℕ → Placed A
  item k = placed d xs k

  -- the element j goes before the element k
  abbrev pub goes_first : ℕ → ℕ → Bool
  goes_first j k = ahead less orders (item j) (item k)

  module _ (j k : ℕ) where
    pub first-less : less (get_or xs j d) (get_or xs k d) ≡ true → goes_first j k ≡ true
    first-less e = ahead-less less orders (item j) (item k) e

    pub first_more : less (get_or xs k d) (get_or xs j d) ≡ true → goes_first j k ≡ false
    first_more e =
        elim (whether (goes_first j k)) [
          | inl a ↦ absurd (behind_more less orders (item j) (item k) e a)
          | inr a ↦ a
        ]

    pub first_tied : less (get_or xs j d) (get_or xs k d) ≡ false → less (get_or xs k d) (get_or xs j d) ≡ false → goes_first j k ≡ ltb j k
    unfolding ahead
    first_tied e f = rw (e, f)

  -- of two elements one goes first, or they are the same
  pub other-first : (k j : ℕ) → goes_first k j ≡ false → (item k ≡ item j) ⊎ (goes_first j k ≡ true)
  other-first k j a =
      elim (whether (less (get_or xs j d) (get_or xs k d))) [
        | inl e ↦ inr (first-less j k e)
        | inr e ↦ elim (whether (less (get_or xs k d) (get_or xs j d))) [
          | inl f ↦ absurd (true_false _ (first-less k j f) a)
          | inr f ↦ elim (whether (ltb k j)) [
            | inl l ↦ absurd (true_false _ (first_tied k j f e ∙ l) a)
            | inr l ↦ elim (whether (ltb j k)) [
              | inl m ↦ inr (first_tied j k e f ∙ m)
              | inr m ↦ let same : k ≡ j = omega (arith, ltb-false k j l, ltb-false j k m) in inl (ap item same)
            ]
          ]
        ]
      ]

  abbrev pub choice : ℕ → Option (Placed A)
  choice k = if eqb k (length xs) then none otherwise some (item k)

  pub choice-none : (k : ℕ) → k ≡ length xs → choice k ≡ none
  choice-none k e = rw (eq-eqb k (length xs) e)

  pub choice-some : (k : ℕ) → (k ≡ length xs → ⊥) → choice k ≡ some (item k)
  choice-some k n = rw (ne_eqb k (length xs) n)

  module _ (test : A → Bool) where
    module _ (last : ℕ) where
      -- it passes the test, and stands behind the last one taken
      abbrev pub Fit : Placed A → Type 0
      Fit z = (test z.what ≡ true) × After (ahead less orders) (choice last) z

      -- of those seen, the one with the number is the next
      abbrev pub Chosen : List (Placed A) → ℕ → Type 0
      Chosen seen best = Best (ahead less orders) Fit seen (choice best)

      pub chosen_none : (n : ℕ) → n ≡ length xs → Chosen [] n
      chosen_none n e = subst (Best (ahead less orders) Fit []) (sym (choice-none n e)) tt

      module _ (k : ℕ) where
        pub fit_fails : test (get_or xs k d) ≡ false → Fit (item k) → ⊥
        fit_fails e f = true_false (test (get_or xs k d)) f.0 e

        pub fit_first : test (get_or xs k d) ≡ true → last ≡ length xs → Fit (item k)
        fit_first o e = (o, subst (λ r. After (ahead less orders) r (item k)) (sym (choice-none last e)) tt)

        pub fit_decided : (b : Bool) → test (get_or xs k d) ≡ true → (last ≡ length xs → ⊥) → b ≡ goes_first last k → Decides (Fit (item k)) b
        fit_decided b o n e =
            record {
              yes = λ h. (o, subst (λ r. After (ahead less orders) r (item k)) (sym (choice-some last n)) (sym e ∙ h));
              no = λ h f. true_false b (e ∙ subst (λ r. After (ahead less orders) r (item k)) (choice-some last n) f.1) h;
            }

      -- one element more
      module _ (seen : List (Placed A)) (best k : ℕ) (h : Chosen seen best) where
        pub chosen_unfit : (Fit (item k) → ⊥) → Chosen (seen ++ item k ∷ []) best
        chosen_unfit n = best_unfit (ahead less orders) Fit seen (item k) n (choice best) h

        module _ (other : k ≡ length xs → ⊥) (f : Fit (item k)) where
          pub chosen-first : best ≡ length xs → Chosen (seen ++ item k ∷ []) k
          chosen-first e =
              subst (Best (ahead less orders) Fit (seen ++ item k ∷ [])) (sym (choice-some k other))
              (best_first (ahead less orders) Fit seen (item k) f (subst (Best (ahead less orders) Fit seen) (choice-none best e) h))

          pub chosen_better : (best ≡ length xs → ⊥) → goes_first k best ≡ true → Chosen (seen ++ item k ∷ []) k
          chosen_better n a =
              subst (Best (ahead less orders) Fit (seen ++ item k ∷ [])) (sym (choice-some k other))
              (best_better (ahead less orders) Fit seen (item k) (ahead_trans less orders) (item best) f a (subst (Best (ahead less orders) Fit seen) (choice-some best n) h))

          pub chosen-worse : (best ≡ length xs → ⊥) → goes_first k best ≡ false → Chosen (seen ++ item k ∷ []) best
          chosen-worse n a =
              subst (Best (ahead less orders) Fit (seen ++ item k ∷ [])) (sym (choice-some best n))
              (best_worse (ahead less orders) Fit seen (item k) (item best) (other-first k best a) (subst (Best (ahead less orders) Fit seen) (choice-some best n) h))

      -- the loop's turn, and its end
      pub chosen-next : (k best : ℕ) → k < length xs → Chosen (take k (placed_from 0 xs) ++ item k ∷ []) best → Chosen (take (k + 1) (placed_from 0 xs)) best
      chosen-next k best h c = subst (λ seen. Chosen seen best) (sym (seen_next d xs k h)) c

      pub chosen-all : (k best : ℕ) → length xs ≤ k → Chosen (take k (placed_from 0 xs)) best → Chosen (placed_from 0 xs) best
      chosen-all k best h c = subst (λ seen. Chosen seen best) (seen_all d xs k h) c

    -- after `taken` elements the last one was `last`
    abbrev pub Taken : ℕ → ℕ → Type 0
    Taken taken last = choice last ≡ last_of (take taken (picks less orders test xs))

    pub taken_none : (n : ℕ) → n ≡ length xs → Taken 0 n
    taken_none n e = choice-none n e

    -- what is still to take, in order
    unfoldable pub left : ℕ → List A
    left taken = map (λ p. p.what) (drop taken (picks less orders test xs))

    pub left-all : left 0 ≡ sort less (kept test xs)
    unfolding left
    left-all = picks-what less orders test xs

    module _ (taken last next : ℕ) (t : Taken taken last) (c : Chosen last (placed_from 0 xs) next) where
      picked : choice next ≡ head_of (drop taken (picks less orders test xs))
      picked = next_pick less orders test xs taken (choice next) (subst (λ r. Best (ahead less orders) (λ z. (test z.what ≡ true) × After (ahead less orders) r z) (placed_from 0 xs) (choice next)) t c)

      pub left_end : next ≡ length xs → left taken ≡ []
      unfolding left
      left_end e = empty (drop taken (picks less orders test xs)) (sym picked ∙ choice-none next e)
        where
          empty : (ps : List (Placed A)) → head_of ps ≡ none → map (λ p. p.what) ps ≡ []
          empty [] h = refl
          empty (p ∷ ps) h = let z : ◌≡◌ {A = ℕ} 0 1 = cc in absurd (omega arith)

      pub left-next : (next ≡ length xs → ⊥) → left taken ≡ get_or xs next d ∷ left (taken + 1)
      unfolding left
      left-next n = ap (map (λ p. p.what)) (rest_of (picks less orders test xs) taken (item next) (sym picked ∙ choice-some next n) ∙ ap (λ i. item next ∷ drop i (picks less orders test xs)) (sym (add-one taken)))

      pub taken_next : (next ≡ length xs → ⊥) → Taken (taken + 1) next
      taken_next n =
          choice-some next n
          ∙ sym (last_of_lem (picks less orders test xs) taken (item next) (sym picked ∙ choice-some next n))
          ∙ ap (λ i. last_of (take i (picks less orders test xs))) (sym (add-one taken))

-- where something is to take there are elements
pub left-some : {A : Type 0} (less : A → A → Bool) (orders : Orders less) (d : A) (test : A → Bool) (xs : List A) (taken : ℕ) → 0 < length (left less orders d xs test taken) → 0 < length xs
unfolding left picks placed_from sort kept
left-some less orders d test [] taken h =
    let most : length (picks less orders test []) ≤ taken = omega arith in
    absurd (omega (arith, ap (λ ps. length (map (λ p. p.what) ps)) (drop_of_length-le (picks less orders test []) most)))
left-some less orders d test (x ∷ xs) taken h = omega arith
