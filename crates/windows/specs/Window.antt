-- What is noted of the places of a part of a text, and what stays of it.
use Rattle.std.specs.Prelude.{ℕ, ◌+◌, ◌-◌, ◌≤◌, ◌≡◌, ◌≢◌, ◌⊎◌, Bool, true, false, List, cond, eqb, get_or, length, ltb, set}
use Rattle.std.proofs.Common.{subst, sym, refl, inl, inr, arith, eqb-true, get_or-set_other, get_or-set_same, length-set, ltb-false, ltb-true}
use Rattle.std.proofs.Math.ListN.{get_or-eq_default}
use Rattle.std.proofs.lemmas.Bool.{eqb-false}
use Rattle.windows.specs.declared.Note.{Note}
use Rattle.windows.specs.declared.Note.TheVariants.{Nothing}
use Rattle.windows.specs.declared.Stage.{Stage}
use Rattle.windows.specs.declared.Stage.TheVariants.{Counting, Filled}
use Rattle.windows.specs.declared.Window.{Window}

-- what is noted of a place: the note with its index, or nothing
abbrev pub noted_in : Stage → List Note → (at : ℕ) → Note
noted_in (Counting from count) notes at = Nothing
noted_in (Filled from used) notes at = cond (ltb at from) Nothing (get_or notes (at - from) Nothing)

abbrev pub noted : Window → (at : ℕ) → Note
noted w at = noted_in w.stage w.notes at

-- a part that begins at a place is noted
abbrev pub BeginsIn : (from : ℕ) → Stage → Type 0
BeginsIn from (Counting place count) = from ≢ from
BeginsIn from (Filled place used) = place ≡ from

abbrev pub Begins : (from : ℕ) → Window → Type 0
Begins from w = BeginsIn from w.stage

-- the same part stands as before, or none as before
abbrev pub Stays : (w w' : Window) → Type 0
Stays w w' = (from : ℕ) → (Begins from w' → Begins from w) × (Begins from w → Begins from w')

-- no part stands
abbrev pub NonePart : Window → Type 0
NonePart w = (from : ℕ) → Begins from w → from ≢ from

-- the part and all notes stay, or none is left
abbrev pub Kept : (w w' : Window) → Type 0
Kept w w' = (((at : ℕ) → noted w' at ≡ noted w at) × Stays w w') ⊎ (((at : ℕ) → noted w' at ≡ Nothing) × NonePart w')

-- where no part stood none stands
pub kept_none : (w w' : Window) → NonePart w → Kept w w' → NonePart w'
kept_none w w' n (inl k) from b = n from ((k.1 from).0 b)
kept_none w w' n (inr k) from b = k.1 from b

-- after `new` and `clear` none stands
pub none_counted : (w : Window) (from count : ℕ) → w.stage ≡ Counting from count → NonePart w
none_counted w from count e at b = subst (BeginsIn at) e b

-- what is noted of each place tells of it what it must
abbrev pub Noted : (P : (at : ℕ) → Note → Type 0) → Window → Type 0
Noted P w = (at : ℕ) → P at (noted w at)

whether : (b : Bool) → (b ≡ true) ⊎ (b ≡ false)
whether true = inl refl
whether false = inr refl

-- where nothing need be told of a place of which nothing is noted
module _ (P : (at : ℕ) → Note → Type 0) (none : (at : ℕ) → P at Nothing) where
  pub noted_nothing : (w : Window) → ((at : ℕ) → noted w at ≡ Nothing) → Noted P w
  noted_nothing w z at = subst (P at) (sym (z at)) (none at)

  -- what stays tells what it told, whatever becomes of the part
  pub noted_still : (w w' : Window) → Noted P w → ((at : ℕ) → noted w' at ≡ noted w at) ⊎ ((at : ℕ) → noted w' at ≡ Nothing) → Noted P w'
  noted_still w w' t (inl same) at = subst (P at) (sym (same at)) (t at)
  noted_still w w' t (inr gone) at = noted_nothing w' gone at

  pub noted_kept : (w w' : Window) → Noted P w → Kept w w' → Noted P w'
  noted_kept w w' t (inl k) = noted_still w w' t (inl k.0)
  noted_kept w w' t (inr k) = noted_still w w' t (inr k.0)

  -- one note more
  put_in : (notes : List Note) (i k at : ℕ) (n : Note) → (k ≡ i → P at n) → P at (get_or notes k Nothing) → P at (get_or (set notes i n) k Nothing)
  put_in notes i k at n here there =
      elim (whether (eqb k i)) [
        | inr a ↦ subst (P at) (sym (get_or-set_other notes i k n Nothing (eqb-false k i a))) there
        | inl a ↦ elim (whether (ltb i (length notes))) [
          | inl t ↦
              let e = eqb-true k i a in
              subst (λ j. P at (get_or (set notes i n) j Nothing)) (sym e) (subst (P at) (sym (get_or-set_same notes i n Nothing (ltb-true i (length notes) t))) (here e))
          | inr t ↦
              let e = eqb-true k i a in
              let l : length (set notes i n) ≤ k = omega (arith, length-set notes i n, ltb-false i (length notes) t, e) in
              subst (P at) (sym (get_or-eq_default (set notes i n) Nothing l)) (none at)
        ]
      ]

  put_at : (from : ℕ) (stage : Stage) (notes : List Note) (i : ℕ) (n : Note) → BeginsIn from stage → P (from + i) n → ((at : ℕ) → P at (noted_in stage notes at)) → (at : ℕ)
      → P at (noted_in stage (set notes i n) at)
  put_at from (Counting place count) notes i n b h t at = absurd (b refl)
  put_at from (Filled place used) notes i n b h t at =
      elim (whether (ltb at place)) [
        | inl l ↦ subst (λ c. P at (cond c Nothing (get_or (set notes i n) (at - place) Nothing))) (sym l) (none at)
        | inr l ↦
            let own : at - place ≡ i → P at n = λ e. let d : from + i ≡ at = omega (arith, ltb-false at place l, e, b) in subst (λ p. P p n) d h in
            let old : P at (get_or notes (at - place) Nothing) = subst (λ c. P at (cond c Nothing (get_or notes (at - place) Nothing))) l (t at) in
            subst (λ c. P at (cond c Nothing (get_or (set notes i n) (at - place) Nothing))) (sym l) (put_in notes i (at - place) at n own old)
      ]

  pub noted_put : (w : Window) (from i : ℕ) (n : Note) → Begins from w → P (from + i) n → Noted P w → Noted P (record w { notes = set w.notes i n })
  noted_put w from i n b h t at = put_at from w.stage w.notes i n b h t at
