-- Searches for a body that are kept by what they have counted at one place, with what they find.
use Rattle.std.specs.Prelude.{ℕ, ◌+◌, ◌-◌, ◌≤◌, ◌<◌, ◌≡◌, ◌≢◌, ◌⊎◌, ◌++◌, Bool, true, false, List, eqb, leb, get_or, Option as Possible, Some, None, MatchOption, length, take, drop, set, replicate, min, max, if◌then◌else◌}
use Rattle.std.specs.List.{All}
use Rattle.std.proofs.Common.{ap, subst, sym, refl, inl, inr, ◌∙◌, arith, eqb-true, leb-true, get_or-set_other, get_or-set_same, length-append, length-set}
use Rattle.std.proofs.Math.Option.{Option, none, some}
use Rattle.std.proofs.lemmas.Bool.{eqb-false}
use Rattle.std.proofs.lemmas.List.{get_or-take, get_or_append_left, length-take}
use Rattle.std.proofs.lemmas.List.Elements.{All-append, All-replicate}
use Rattle.text_rules.specs.Classes.{square_close, square_open}
use Rattle.source_rules.specs.Finding.{body_at}
use Rattle.blocks.specs.Blocks.{count_most}
use Rattle.flat.specs.Body.{Counted, body_from}
use Rattle.flat.specs.LevelLaws.{body_same}
use Rattle.flat.specs.declared.Counts.{Counts}
use Rattle.chunks.specs.Passing.{Misses, PassesBody}
use Rattle.chunks.specs.PastLaws.{counted_further, counts_past}
use Rattle.chunks.specs.declared.Chunk.{Chunk}
use Rattle.memo.specs.declared.Kept.{Kept}
use Rattle.memo.specs.declared.Search.{Search}

-- a search goes on behind a chunk that ends before a place with other counts
abbrev pub TellsPast : List ℕ → (at to : ℕ) → Counts → Possible Counts → Type 0
TellsPast s at to n (Some m) = (at + 4096 ≤ to) × (body_from s at n ≡ body_from s (at + 4096) m) × Counted m (at + 4096)
TellsPast s at to n None = ℕ

-- a search that does not end in some bytes goes on behind them
pub goes_past : (s : List ℕ) (from to : ℕ) (c : Chunk ℕ) (n : Counts) → from ≤ to → PassesBody s from to c → Counted n from → Misses c n.angle n.opened n.closed
    → (body_from s from n ≡ body_from s to (counts_past c n)) × Counted (counts_past c n) to
goes_past s from to c n l p k m =
    let o : c.opened ≤ to - from = omega (arith, p.opened-is, count_most square_open s from (to - from)) in
    let e : c.closed ≤ to - from = omega (arith, p.closed_is, count_most square_close s from (to - from)) in (
      p.passes n.angle n.opened n.closed m,
      record { angle_most = omega (arith, k.angle_most, p.ups_most, l); opened-most = omega (arith, k.opened-most, o, l); closed-most = omega (arith, k.closed-most, e, l) },
    )

-- what is known of what a search finds: nothing, or that it finds none, or the brace
abbrev pub Known : Possible (Possible ℕ) → (found : Option ℕ) → Type 0
Known None found = ℕ
Known (Some None) found = found ≡ none
Known (Some (Some place)) found = found ≡ some place

-- a search has counted so much at a place, and finds what is kept of it
pub record Holds (s : List ℕ) (at : ℕ) (x : Search) : Type 0 where
  pub counted : Counted x.counts at
  pub finds : Known (Some x.found) (body_from s at x.counts)

abbrev pub Entry : List ℕ → (at : ℕ) → Possible Search → Type 0
Entry s at x = MatchOption x (Unit {0}) (Holds s at)

-- the searches that are kept: those at the first indices
abbrev pub searches_of : Kept → List (Possible Search)
searches_of f = take (min f.used 64) f.searches

-- what is kept at each of the 64 indices: nothing behind the first ones
abbrev pub slots_of : Kept → List (Possible Search)
slots_of f = searches_of f ++ replicate (64 - min f.used 64) None

-- where each is none, none is kept
pub all_nothing : (n : ℕ) → All {X = Possible Search} (λ x. x ≡ None) (replicate n None)
all_nothing n = All-replicate (λ x. x ≡ None) n None refl

-- what holds of each search that is kept, and of `None`, holds at each index; and what holds at each index holds of each search
module _ (P : Possible Search → Type 0) (f : Kept) where
  pub each_slot : P None → All P (searches_of f) → All P (slots_of f)
  each_slot p a = All-append P (searches_of f) (replicate (64 - min f.used 64) None) a (All-replicate P (64 - min f.used 64) None p)

  pub each_search : All P (slots_of f) → All P (searches_of f)
  each_search a k d l =
      let rest : List (Possible Search) = replicate (64 - min f.used 64) None in
      let m : k < length (searches_of f ++ rest) = omega (arith, l, length-append (searches_of f) rest) in
      subst P (get_or_append_left (searches_of f) rest d k l) (a k d m)

-- each search that is kept finds what is kept of it
pub record Recalls (s : List ℕ) (f : Kept) : Type 0 where
  pub inside : f.at ≤ length s
  pub each : All (Entry s f.at) (searches_of f)

-- no search is kept
pub record Forgotten (at : ℕ) (f : Kept) : Type 0 where
  pub place : f.at ≡ at
  pub nothing : All (λ x. x ≡ None) (searches_of f)

pub recalls_nothing : (s : List ℕ) (f : Kept) (at : ℕ) → at ≤ length s → Forgotten at f → Recalls s f
recalls_nothing s f at l e = record { inside = omega (arith, l, e.place); each = λ k d m. subst (Entry s f.at) (sym (e.nothing k d m)) tt }

-- what a search has counted is at most so much
abbrev pub EntryCounted : (most : ℕ) → Possible Search → Type 0
EntryCounted most x = MatchOption x (Unit {0}) (λ y. Counted y.counts most)

abbrev pub AllCounted : (most : ℕ) → Kept → Type 0
AllCounted most f = All (EntryCounted most) (searches_of f)

entry_counted : (s : List ℕ) (at most : ℕ) (x : Possible Search) → at ≤ most → Entry s at x → EntryCounted most x
entry_counted s at most None l e = tt
entry_counted s at most (Some x) l e = counted_further x.counts at most l e.counted

-- what they have counted is at most the length of the text
pub all_counted : (s : List ℕ) (f : Kept) (most : ℕ) → Recalls s f → length s ≤ most → AllCounted most f
all_counted s f most r l k d m = entry_counted s f.at most _ (omega (arith, l, r.inside)) (r.each k d m)

-- one more search is kept: what the searches tell stays true
abbrev pub Keeps : Counts → (found : Possible ℕ) → (f g : Kept) → Type 0
Keeps n found f g = (s : List ℕ) → Recalls s f → Holds s f.at (record { counts = n; found = found }) → Recalls s g

whether : (b : Bool) → (b ≡ true) ⊎ (b ≡ false)
whether true = inl refl
whether false = inr refl

-- one is put at an index, and no other index is used that was not
all_put : (P : Possible Search → Type 0) (n m i : ℕ) (xs : List (Possible Search)) (y : Possible Search) → ((k : ℕ) → k < m → k ≢ i → k < n) → P y → All P (take n xs)
    → All P (take m (set xs i y))
all_put P n m i xs y other p a k d l =
    let in_take : k < m = omega (arith, l, length-take m (set xs i y)) in
    let inside : k < length xs = omega (arith, l, length-take m (set xs i y), length-set xs i y) in
    subst P (sym (get_or-take m (set xs i y) k d in_take)) (elim (whether (eqb k i)) [
      | inl t ↦
          let e = eqb-true k i t in
          subst (λ j. P (get_or (set xs i y) j d)) (sym e) (subst P (sym (get_or-set_same xs i y d (omega (arith, inside, e)))) p)
      | inr t ↦
          let e = eqb-false k i t in
          let was : k < n = other k in_take e in
          subst P (sym (get_or-set_other xs i k y d e))
          (subst P (get_or-take n xs k d was) (a k d (omega (arith, was, inside, length-take n xs))))
    ])

-- it is put at an index, and no other index is used that was not
pub keeps_put : (s : List ℕ) (f g : Kept) (i : ℕ) (x : Search) → ((k : ℕ) → k < g.used → k ≢ i → k < f.used) → g.at ≡ f.at → g.searches ≡ set f.searches i (Some x)
    → Recalls s f → Holds s f.at x → Recalls s g
keeps_put s f g i x other e w r h =
    let put = all_put (Entry s f.at) (min f.used 64) (min g.used 64) i f.searches (Some x) (λ k a b. omega (arith, a, other k (omega (arith, a)) b)) h r.each in
    record { inside = omega (arith, e, r.inside); each = subst (λ j. All (Entry s j) (searches_of g)) (sym e) (subst (λ xs. All (Entry s f.at) (take (min g.used 64) xs)) (sym w) put) }

used_before : (b : Bool) (i used : ℕ) → (b ≡ true → i ≤ used) → (k : ℕ) → k < (if b then max used (i + 1) else used) → k ≢ i → k < used
used_before true i used h k l n = let m : i ≤ used = h refl in omega (arith, l, m, n)
used_before false i used h k l n = l

-- it is put at any index. One behind the next unused index is not used by that
pub keeps-there : (s : List ℕ) (f : Kept) (i turn end : ℕ) (x : Search) → Recalls s f → Holds s f.at x
    → Recalls s (record { at = f.at; turn = turn; end = end; used = if leb i f.used then max f.used (i + 1) else f.used; searches = set f.searches i (Some x) })
keeps-there s f i turn end x r h =
    keeps_put s f _ i x (used_before (leb i f.used) i f.used (leb-true i f.used)) refl refl r h

-- it is put at an index, of which those before are used
pub keeps_used : (s : List ℕ) (f g : Kept) (i : ℕ) (x : Search) → i ≤ f.used → g.at ≡ f.at → g.used ≡ max f.used (i + 1) → g.searches ≡ set f.searches i (Some x)
    → Recalls s f → Holds s f.at x → Recalls s g
keeps_used s f g i x l e u = keeps_put s f g i x (λ k a b. omega (arith, a, b, l, u)) e

-- a search with the same depths finds the same
pub same_finds : (s : List ℕ) (at : ℕ) (x : Search) (n : Counts) → Holds s at x → x.counts.angle ≡ n.angle → x.counts.opened + n.closed ≡ n.opened + x.counts.closed
    → Known (Some x.found) (body_from s at n)
same_finds s at x n h a o =
    let m = x.counts in
    let same : body_from s at m ≡ body_from s at n =
    body_same (drop at s) m.angle m.opened m.closed n.opened n.closed at o ∙ ap (λ k. body_at k n.opened n.closed at (drop at s)) a in
    subst (Known (Some x.found)) same h.finds
