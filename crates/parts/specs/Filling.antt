-- One pass over a text tells the partners of the round brackets of a part of it. The part begins at a place `from`, and an index i stands for the bracket
-- before the place from + i. Brackets whose partner is not met yet wait, the last one that was opened on top. The others are written down in the order
-- in which they are closed, so that the places behind their partners rise.
use Rattle.std.specs.Prelude.{ℕ, zero, suc, ◌+◌, ◌-◌, ◌≤◌, ◌<◌, ◌≡◌, refl, ◌≢◌, ◌⊎◌, List, [], ◌∷◌, ◌++◌, length, drop, take, Some, get_or, set}
use Rattle.std.proofs.Common.{ap, subst, sym, ◌∙◌, inl, inr, arith, length-append, length-take}
use Rattle.std.proofs.lemmas.List.{get_or-take}
use Rattle.std.proofs.Math.Option.{none, some}
use Rattle.text_rules.specs.Classes.{round_close, round_open}
use Rattle.source_rules.specs.Finding.{body_at}
use Rattle.source_rules.proofs.WalkSteps.{partner_close, partner-end, partner-found, partner_open, partner-other}
use Rattle.windows.specs.Window.{Begins, Noted, noted_put}
use Rattle.windows.specs.declared.Note.{Note}
use Rattle.windows.specs.declared.Note.TheVariants.{Broken, Closed, Whole}
use Rattle.windows.specs.declared.Window.{Window}
use Rattle.chunks.specs.Passing.{TellsDepth}
use Rattle.bodies.specs.Bodies.{Rising}
use Rattle.bodies.specs.declared.Sought.{Sought}
use Rattle.bodies.specs.declared.Sought.TheVariants.{Brace, Nothing}
use Rattle.parts.specs.declared.Pass.{Pass}
use Rattle.parts.specs.Told.{NoteTells, body_behind, no-brace, sought_from}

-- at a place brackets wait: each is sought on with those above it and `inner` more open inside it
pub record Waiting (s opens : List ℕ) (from many at inner : ℕ) : Type 0 where
  pub within : (k : ℕ) → k < length opens → get_or opens k 0 < many
  pub sought : (k : ℕ) → k < length opens → sought_from s (from + get_or opens k 0) 0 ≡ sought_from s at (inner + (length opens - 1 - k))

-- brackets without a partner
pub record Unmet (s opens : List ℕ) (from many : ℕ) : Type 0 where
  pub within : (k : ℕ) → k < length opens → get_or opens k 0 < many
  pub nowhere : (k : ℕ) → k < length opens → sought_from s (from + get_or opens k 0) 0 ≡ none

-- the bracket with an index is closed before a place
pub record ClosedBefore (s : List ℕ) (from many index at : ℕ) : Type 0 where
  pub within : index < many
  pub least : 1 ≤ at
  pub partner-there : sought_from s (from + index) 0 ≡ some (at - 1)

-- the brackets that are closed up to a place, in this order: their indices, and the places behind their partners
pub record Order (s owners starts : List ℕ) (from many at : ℕ) : Type 0 where
  pub both : length starts ≡ length owners
  pub closed : (k : ℕ) → k < length owners → ClosedBefore s from many (get_or owners k 0) (get_or starts k 0)
  pub most : (k : ℕ) → k < length owners → get_or starts k 0 ≤ at
  pub rising : (j k : ℕ) → j < k → k < length owners → get_or starts j 0 < get_or starts k 0

-- what the pass has met up to a place of the text
pub record Passed (at : ℕ) (p : Pass) : Type 0 where
  pub inside : at ≤ length p.part.text.text.now
  pub few : length p.opens.items + length p.owners.items ≤ p.part.many
  pub inner-most : p.inner ≤ at
  pub waiting : Waiting p.part.text.text.now p.opens.items p.part.from p.part.many at p.inner
  pub order : Order p.part.text.text.now p.owners.items p.starts.items p.part.from p.part.many at

-- the brackets that wait have no partner
abbrev pub AllUnmet : Pass → Type 0
AllUnmet p = Unmet p.part.text.text.now p.opens.items p.part.from p.part.many

-- the others are closed, anywhere in the text
abbrev pub InOrder : Pass → Type 0
InOrder p = Order p.part.text.text.now p.owners.items p.starts.items p.part.from p.part.many (length p.part.text.text.now)

-- the same inside the part, where there is one bracket for each byte at most
pub record Within (at : ℕ) (p : Pass) : Type 0 where
  pub begun : p.part.from ≤ at
  pub before : at + 1 ≤ p.part.from + p.part.many
  pub few : length p.opens.items + length p.owners.items + p.part.from ≤ at + 1
  pub none-inner : p.inner ≡ 0
  pub waiting : Waiting p.part.text.text.now p.opens.items p.part.from p.part.many at 0
  pub order : Order p.part.text.text.now p.owners.items p.starts.items p.part.from p.part.many at

-- the pass where the bracket on top is closed before a place
abbrev pub closed : (at : ℕ) → Pass → Pass
closed at p =
    record p {
      opens = record { items = take (length p.opens.items - 1) p.opens.items };
      owners = record { items = p.owners.items ++ get_or p.opens.items (length p.opens.items - 1) 0 ∷ [] };
      starts = record { items = p.starts.items ++ at ∷ [] };
    }

-- the bracket on top is closed, if one waits
abbrev pub Closes : (at : ℕ) → (p p' : Pass) → Type 0
Closes at p p' = ((length p.opens.items ≡ 0) × (p' ≡ p)) ⊎ ((0 < length p.opens.items) × (p' ≡ closed at p))

-- what is noted of a part tells what it must
pub record Telling (s : List ℕ) (from : ℕ) (w : Window) : Type 0 where
  pub begins : Begins from w
  pub tells : Noted (NoteTells s) w

-- what is noted of a bracket that is closed before a place, by what the search for a body that begins there finds
pub data ClosesNote (found : Sought) (start : ℕ) (n : Note) : Type 0 where
  note_broken : found ≡ Nothing → n ≡ Broken → ClosesNote found start n
  note_closed : n ≡ Closed (start - 1) → ClosesNote found start n
  note_whole : (p : ℕ) → found ≡ Brace p → n ≡ Whole (start - 1) p → ClosesNote found start n

-- ---- one element more

-- the elements before the last stay
before-last : {A : Type 0} (l : List A) (v d : A) (k : ℕ) → k < length l → get_or (l ++ v ∷ []) k d ≡ get_or l k d
before-last [] v d k h = absurd (omega arith)
before-last (x ∷ l) v d zero h = refl
before-last (x ∷ l) v d (suc k) h = before-last l v d k (omega arith)

-- what holds of the last element and of those before it holds of each
each-more : {A : Type 0} (P : (k : ℕ) → A → Type 0) (l : List A) (v d : A) → P (length l) v → (k : ℕ) → k < length (l ++ v ∷ []) → (k < length l → P k (get_or l k d)) → P k (get_or (l ++ v ∷ []) k d)
each-more P [] v d here zero h other = here
each-more P [] v d here (suc k) h other = absurd (omega arith)
each-more P (x ∷ l) v d here zero h other = other (omega arith)
each-more P (x ∷ l) v d here (suc k) h other = each-more (λ j. P (suc j)) l v d here k (omega arith) (λ m. other (omega arith))

-- the same of two lists
both-more : (P : (v w : ℕ) → Type 0) (l r : List ℕ) (v w : ℕ) → length r ≡ length l → P v w → (k : ℕ) → k < length (l ++ v ∷ []) → (k < length l → P (get_or l k 0) (get_or r k 0))
    → P (get_or (l ++ v ∷ []) k 0) (get_or (r ++ w ∷ []) k 0)
both-more P [] [] v w e here zero h other = here
both-more P [] [] v w e here (suc k) h other = absurd (omega arith)
both-more P (x ∷ l) (y ∷ r) v w e here zero h other = other (omega arith)
both-more P (x ∷ l) (y ∷ r) v w e here (suc k) h other = both-more P l r v w (omega (arith, e)) here k (omega arith) (λ m. other (omega arith))
both-more P [] (y ∷ r) v w e here k h other = absurd (omega (arith, e))
both-more P (x ∷ l) [] v w e here k h other = absurd (omega (arith, e))

-- ---- the brackets that wait

differ : round_open ≢ round_close
differ e = omega arith

-- at the start of the part one waits
pub waiting-first : (s : List ℕ) (from many : ℕ) → 1 ≤ many → Waiting s (0 ∷ []) from many from 0
waiting-first s from many h =
    record {
      within = λ k l. let e : k ≡ 0 = omega arith in subst (λ j. get_or (0 ∷ []) j 0 < many) (sym e) (omega arith);
      sought = λ k l.
          let e : k ≡ 0 = omega arith in
          let p : from + 0 ≡ from = omega arith in
          subst (λ j. sought_from s (from + get_or (0 ∷ []) j 0) 0 ≡ sought_from s from (0 + (1 - 1 - j))) (sym e) (ap (λ q. sought_from s q 0) p);
    }

-- one more
pub waiting_push : (s opens : List ℕ) (from many at : ℕ) → Waiting s opens from many at 0 → at < length s → get_or s at 0 ≡ round_open → from ≤ at
    → at + 1 - from < many → Waiting s (opens ++ (at + 1 - from) ∷ []) from many (at + 1) 0
waiting_push s opens from many at w h e i l =
    let more : length (opens ++ (at + 1 - from) ∷ []) ≡ length opens + 1 = length-append opens ((at + 1 - from) ∷ []) in
    record {
      within = λ k g. each-more (λ j v. v < many) opens (at + 1 - from) 0 l k g (w.within k);
      sought = λ k g.
          let p : from + (at + 1 - from) ≡ at + 1 = omega arith in
          let z : 0 ≡ 0 + (length (opens ++ (at + 1 - from) ∷ []) - 1 - length opens) = omega (arith, more) in
          each-more (λ j v. sought_from s (from + v) 0 ≡ sought_from s (at + 1) (0 + (length (opens ++ (at + 1 - from) ∷ []) - 1 - j))) opens (at + 1 - from) 0
          (ap (λ q. sought_from s q 0) p ∙ ap (sought_from s (at + 1)) z) k g
          (λ below.
          let d : 0 + (length opens - 1 - k) + 1 ≡ 0 + (length (opens ++ (at + 1 - from) ∷ []) - 1 - k) = omega (arith, more, below) in
          w.sought k below ∙ partner_open s at h round_open round_close (0 + (length opens - 1 - k)) differ e ∙ ap (sought_from s (at + 1)) d);
    }

module _ (s opens : List ℕ) (from many at inner : ℕ) (w : Waiting s opens from many at inner) where
  abbrev high : ℕ
  high = length opens

  -- at the end of the text none has a partner
  pub waiting-end : length s ≤ at → Unmet s opens from many
  waiting-end h = record { within = w.within; nowhere = λ k l. w.sought k l ∙ partner-end s at h round_open round_close (inner + (high - 1 - k)) }

  -- behind a chunk in which none of them is closed
  pub waiting-past : (d : ℕ) → TellsDepth s at inner (Some d) → Waiting s opens from many (at + 4096) d
  waiting-past d e = record { within = w.within; sought = λ k l. w.sought k l ∙ e.2 (high - 1 - k) }

  -- one byte further
  module _ (h : at < length s) where
    pub waiting-other : get_or s at 0 ≢ round_open → get_or s at 0 ≢ round_close → Waiting s opens from many (at + 1) inner
    waiting-other o c =
        record { within = w.within; sought = λ k l. w.sought k l ∙ partner-other s at h round_open round_close (inner + (high - 1 - k)) o c }

    pub waiting_open : get_or s at 0 ≡ round_open → Waiting s opens from many (at + 1) (inner + 1)
    waiting_open e =
        record {
          within = w.within;
          sought = λ k l.
              let d : inner + (high - 1 - k) + 1 ≡ inner + 1 + (high - 1 - k) = omega arith in
              w.sought k l ∙ partner_open s at h round_open round_close (inner + (high - 1 - k)) differ e ∙ ap (sought_from s (at + 1)) d;
        }

    module _ (e : get_or s at 0 ≡ round_close) where
      pub waiting_close : 0 < inner → Waiting s opens from many (at + 1) (inner - 1)
      waiting_close i =
          record {
            within = w.within;
            sought = λ k l.
                let d : inner + (high - 1 - k) - 1 ≡ inner - 1 + (high - 1 - k) = omega arith in
                w.sought k l ∙ partner_close s at h round_open round_close (inner + (high - 1 - k)) differ e (λ z. omega arith) ∙ ap (sought_from s (at + 1)) d;
          }

      -- the one on top has its partner
      pub waiting-met : inner ≡ 0 → 0 < high → sought_from s (from + get_or opens (high - 1) 0) 0 ≡ some at
      waiting-met z i = w.sought (high - 1) (omega arith) ∙ partner-found s at h round_open round_close (inner + (high - 1 - (high - 1))) e (omega arith)

      pub waiting_pop : inner ≡ 0 → Waiting s (take (high - 1) opens) from many (at + 1) inner
      waiting_pop z =
          let fewer : length (take (high - 1) opens) ≡ high - 1 = simp length-take (omega arith) in
          record {
            within = λ k l. let g : k < high - 1 = omega (arith, fewer, l) in subst (λ v. v < many) (sym (get_or-take (high - 1) opens k 0 g)) (w.within k (omega arith));
            sought = λ k l.
                let g : k < high - 1 = omega (arith, fewer, l) in
                let d : inner + (high - 1 - k) - 1 ≡ inner + (length (take (high - 1) opens) - 1 - k) = omega (arith, fewer, g) in
                subst (λ v. sought_from s (from + v) 0 ≡ sought_from s (at + 1) (inner + (length (take (high - 1) opens) - 1 - k))) (sym (get_or-take (high - 1) opens k 0 g))
                (w.sought k (omega arith) ∙ partner_close s at h round_open round_close (inner + (high - 1 - k)) differ e (λ q. omega arith) ∙ ap (sought_from s (at + 1)) d);
          }

      -- where none waits none does there
      pub waiting_stray : high ≡ 0 → Waiting s opens from many (at + 1) inner
      waiting_stray z = record { within = w.within; sought = λ k l. absurd (omega (arith, z, l)) }

-- ---- the brackets that are closed

pub order-none : (s : List ℕ) (from many at : ℕ) → Order s [] [] from many at
order-none s from many at =
    record { both = refl; closed = λ k l. absurd (omega arith); most = λ k l. absurd (omega arith); rising = λ j k l m. absurd (omega arith) }

module _ (s owners starts : List ℕ) (from many at : ℕ) (o : Order s owners starts from many at) where
  -- further on they are the same
  pub order-later : (to : ℕ) → at ≤ to → Order s owners starts from many to
  order-later to h = record { both = o.both; closed = o.closed; most = λ k l. omega (arith, o.most k l, h); rising = o.rising }

  -- one more is closed
  order-next : (index : ℕ) → ClosedBefore s from many index (at + 1) → Order s (owners ++ index ∷ []) (starts ++ (at + 1) ∷ []) from many (at + 1)
  order-next index c =
      let more : length (owners ++ index ∷ []) ≡ length owners + 1 = length-append owners (index ∷ []) in
      let same : length (starts ++ (at + 1) ∷ []) ≡ length (owners ++ index ∷ []) = omega (arith, more, length-append starts ((at + 1) ∷ []), o.both) in
      record {
        both = same;
        closed = λ k l. both-more (ClosedBefore s from many) owners starts index (at + 1) o.both c k l (o.closed k);
        most = λ k l. each-more (λ i v. v ≤ at + 1) starts (at + 1) 0 (omega arith) k (omega (arith, same, l)) (λ g. omega (arith, o.most k (omega (arith, o.both, g))));
        rising = λ j k l m.
            let below : j < length starts = omega (arith, more, o.both, l, m) in
            let same-j : get_or (starts ++ (at + 1) ∷ []) j 0 ≡ get_or starts j 0 = before-last starts (at + 1) 0 j below in
            each-more (λ i v. get_or (starts ++ (at + 1) ∷ []) j 0 < v) starts (at + 1) 0 (omega (arith, same-j, o.most j (omega (arith, below, o.both)))) k (omega (arith, same, m))
            (λ g. omega (arith, same-j, o.rising j k l (omega (arith, g, o.both))));
      }

  -- the bracket on top where its partner is met
  pub order-met : (opens : List ℕ) (inner : ℕ) → Waiting s opens from many at inner → at < length s → get_or s at 0 ≡ round_close → inner ≡ 0 → 0 < length opens
      → Order s (owners ++ get_or opens (length opens - 1) 0 ∷ []) (starts ++ (at + 1) ∷ []) from many (at + 1)
  order-met opens inner w h e z i =
      let back : at ≡ at + 1 - 1 = omega arith in
      order-next (get_or opens (length opens - 1) 0)
      (record { within = w.within (length opens - 1) (omega arith); least = omega arith; partner-there = waiting-met s opens from many at inner w h e z i ∙ ap some back })

-- ---- the pass

-- where the bracket on top is closed as many are told
closed-few : (p : Pass) (at : ℕ) → 0 < length p.opens.items → length (closed at p).opens.items + length (closed at p).owners.items ≡ length p.opens.items + length p.owners.items
closed-few p at h =
    let fewer : length (take (length p.opens.items - 1) p.opens.items) ≡ length p.opens.items - 1 = simp length-take (omega arith) in
    omega (arith, fewer, h, length-append p.owners.items (get_or p.opens.items (length p.opens.items - 1) 0 ∷ []))

-- one byte further behind the part
module _ (at : ℕ) (p : Pass) (w : Passed at p) (h : at < length p.part.text.text.now) where
  abbrev s : List ℕ
  s = p.part.text.text.now

  later : (to : ℕ) → at ≤ to → Order s p.owners.items p.starts.items p.part.from p.part.many to
  later to l = order-later s p.owners.items p.starts.items p.part.from p.part.many at w.order to l

  pub passed_other : get_or s at 0 ≢ round_open → get_or s at 0 ≢ round_close → Passed (at + 1) p
  passed_other o c =
      record {
        inside = omega arith;
        few = w.few;
        inner-most = omega (arith, w.inner-most);
        waiting = waiting-other s p.opens.items p.part.from p.part.many at p.inner w.waiting h o c;
        order = later (at + 1) (omega arith);
      }

  pub passed_open : get_or s at 0 ≡ round_open → Passed (at + 1) (record p { inner = p.inner + 1 })
  passed_open e =
      record {
        inside = omega arith;
        few = w.few;
        inner-most = omega (arith, w.inner-most);
        waiting = waiting_open s p.opens.items p.part.from p.part.many at p.inner w.waiting h e;
        order = later (at + 1) (omega arith);
      }

  pub passed_close : get_or s at 0 ≡ round_close → 0 < p.inner → Passed (at + 1) (record p { inner = p.inner - 1 })
  passed_close e i =
      record {
        inside = omega arith;
        few = w.few;
        inner-most = omega (arith, w.inner-most);
        waiting = waiting_close s p.opens.items p.part.from p.part.many at p.inner w.waiting h e i;
        order = later (at + 1) (omega arith);
      }

  -- the one on top has its partner
  pub passed_met : get_or s at 0 ≡ round_close → p.inner ≡ 0 → (p' : Pass) → Closes (at + 1) p p' → Passed (at + 1) p'
  passed_met e z p' (inl c) =
      subst (Passed (at + 1)) (sym c.1)
      (record {
        inside = omega arith;
        few = w.few;
        inner-most = omega (arith, w.inner-most);
        waiting = waiting_stray s p.opens.items p.part.from p.part.many at p.inner w.waiting h e c.0;
        order = later (at + 1) (omega arith);
      })
  passed_met e z p' (inr c) =
      subst (Passed (at + 1)) (sym c.1)
      (record {
        inside = omega arith;
        few = omega (arith, w.few, closed-few p (at + 1) c.0);
        inner-most = omega (arith, w.inner-most);
        waiting = waiting_pop s p.opens.items p.part.from p.part.many at p.inner w.waiting h e z;
        order = order-met s p.owners.items p.starts.items p.part.from p.part.many at w.order p.opens.items p.inner w.waiting h e z c.0;
      })

-- a chunk further
pub passed_chunk : (at : ℕ) (p : Pass) (d : ℕ) → Passed at p → TellsDepth p.part.text.text.now at p.inner (Some d) → Passed (at + 4096) (record p { inner = d })
passed_chunk at p d w e =
    record {
      inside = e.0;
      few = w.few;
      inner-most = e.1;
      waiting = waiting-past p.part.text.text.now p.opens.items p.part.from p.part.many at p.inner w.waiting d e;
      order = order-later p.part.text.text.now p.owners.items p.starts.items p.part.from p.part.many at w.order (at + 4096) (omega arith);
    }

-- one byte further inside the part
module _ (at : ℕ) (p : Pass) (w : Within at p) (h : at < length p.part.text.text.now) (i : at + 1 < p.part.from + p.part.many) where
  abbrev t : List ℕ
  t = p.part.text.text.now

  onward : Order t p.owners.items p.starts.items p.part.from p.part.many (at + 1)
  onward = order-later t p.owners.items p.starts.items p.part.from p.part.many at w.order (at + 1) (omega arith)

  pub within_open : get_or t at 0 ≡ round_open → Within (at + 1) (record p { opens = record { items = p.opens.items ++ (at + 1 - p.part.from) ∷ [] } })
  within_open e =
      record {
        begun = omega (arith, w.begun);
        before = omega (arith, i);
        few = omega (arith, w.few, length-append p.opens.items ((at + 1 - p.part.from) ∷ []));
        none-inner = w.none-inner;
        waiting = waiting_push t p.opens.items p.part.from p.part.many at w.waiting h e w.begun (omega (arith, w.begun, i));
        order = onward;
      }

  -- a bracket is closed, or one from before the part
  pub within_met : get_or t at 0 ≡ round_close → (p' : Pass) → Closes (at + 1) p p' → Within (at + 1) p'
  within_met e p' (inl c) =
      subst (Within (at + 1)) (sym c.1)
      (record {
        begun = omega (arith, w.begun);
        before = omega (arith, i);
        few = omega (arith, w.few);
        none-inner = w.none-inner;
        waiting = waiting_stray t p.opens.items p.part.from p.part.many at 0 w.waiting h e c.0;
        order = onward;
      })
  within_met e p' (inr c) =
      subst (Within (at + 1)) (sym c.1)
      (record {
        begun = omega (arith, w.begun);
        before = omega (arith, i);
        few = omega (arith, w.few, closed-few p (at + 1) c.0);
        none-inner = w.none-inner;
        waiting = waiting_pop t p.opens.items p.part.from p.part.many at 0 w.waiting h e refl;
        order = order-met t p.owners.items p.starts.items p.part.from p.part.many at w.order p.opens.items 0 w.waiting h e refl c.0;
      })

  pub within_other : get_or t at 0 ≢ round_open → get_or t at 0 ≢ round_close → Within (at + 1) p
  within_other o c =
      record {
        begun = omega (arith, w.begun);
        before = omega (arith, i);
        few = omega (arith, w.few);
        none-inner = w.none-inner;
        waiting = waiting-other t p.opens.items p.part.from p.part.many at 0 w.waiting h o c;
        order = onward;
      }

-- at its end
pub within_passed : (at : ℕ) (p : Pass) → Within at p → p.part.from + p.part.many ≤ length p.part.text.text.now → Passed at p
within_passed at p w l =
    record {
      inside = omega (arith, w.before, l);
      few = omega (arith, w.few, w.before);
      inner-most = omega (arith, w.none-inner);
      waiting = rw w.none-inner w.waiting;
      order = w.order;
    }

-- where none waits, or the text ends, those that wait have no partner
pub passed_unmet : (at : ℕ) (p : Pass) → Passed at p → (length p.opens.items ≡ 0) ⊎ (length p.part.text.text.now ≤ at) → AllUnmet p
passed_unmet at p w (inl z) = record { within = w.waiting.within; nowhere = λ k l. absurd (omega (arith, z, l)) }
passed_unmet at p w (inr l) = waiting-end p.part.text.text.now p.opens.items p.part.from p.part.many at p.inner w.waiting l

pub passed_order : (at : ℕ) (p : Pass) → Passed at p → InOrder p
passed_order at p w = order-later p.part.text.text.now p.owners.items p.starts.items p.part.from p.part.many at w.order (length p.part.text.text.now) w.inside

-- the places behind their partners rise
pub order-rising : (s owners starts : List ℕ) (from many : ℕ) → Order s owners starts from many (length s) → Rising s starts (length starts)
order-rising s owners starts from many o =
    record { rising = λ j k l m. o.rising j k l (omega (arith, m, o.both)); inside = λ k l. o.most k (omega (arith, l, o.both)) }

-- ---- the notes

-- of a bracket that is closed before a place: the place, and where a body begins, or that none does
module _ (s : List ℕ) (from many index start : ℕ) (found : Sought) (c : ClosedBefore s from many index start) where
  same-body : body_behind s (start - 1) ≡ body_at 0 0 0 start (drop start s)
  same-body = let back : start - 1 + 1 ≡ start = omega (arith, c.least) in ap (λ p. body_at 0 0 0 p (drop p s)) back

  pub closes_tells : (found ≡ Nothing → body_at 0 0 0 start (drop start s) ≡ none) → ((p : ℕ) → found ≡ Brace p → body_at 0 0 0 start (drop start s) ≡ some p)
      → (n : Note) → ClosesNote found start n → NoteTells s (from + index) n
  closes_tells vain there n (note_broken f e) = subst (NoteTells s (from + index)) (sym e) (no-brace (start - 1) c.partner-there (same-body ∙ vain f))
  closes_tells vain there n (note_closed e) = subst (NoteTells s (from + index)) (sym e) c.partner-there
  closes_tells vain there n (note_whole p f e) = subst (NoteTells s (from + index)) (sym e) (c.partner-there, same-body ∙ there p f)

-- one note more
pub telling-put : (s : List ℕ) (from i : ℕ) (n : Note) (w : Window) → Telling s from w → NoteTells s (from + i) n → Telling s from (record w { notes = set w.notes i n })
telling-put s from i n w t h = record { begins = t.begins; tells = noted_put (NoteTells s) (λ at. tt) w from i n t.begins h t.tells }
