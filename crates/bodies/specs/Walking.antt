-- A walk over a text with the searches for a body that begin on the way, at given places. The angle depth of each is told by the brackets that are
-- open and were opened behind its beginning, and its square depth by the level at which it began and the level of the walk. So at a `{` or `;` those
-- end whose level is that of the walk, and that began behind all open angle brackets.
use Rattle.std.specs.Prelude.{ℕ, ◌+◌, ◌-◌, ◌≤◌, ◌<◌, min, max, ◌≡◌, refl, ◌⊎◌, ◌≢◌, true, List, eqb, length, drop, get_or, set}
use Rattle.std.proofs.Common.{ap, subst, sym, ◌∙◌, inl, inr, arith}
use Rattle.std.proofs.Math.Option.{Option, none, some}
use borrow.Author.Tests.{eq-eqb, eqb-true}
use Rattle.text_rules.specs.BytesLaws.{and_left, and_right, whether}
use Rattle.text_rules.specs.Classes.{brace_open, semicolon, square_close, square_open}
use Rattle.text_rules.specs.Search.{count_after}
use Rattle.source_rules.specs.Finding.{angle_after, body_at, flat}
use Rattle.source_rules.proofs.WalkSteps.{body_end, body-step}
use Rattle.blocks.specs.Blocks.{count-behind, count_most, count_from}
use Rattle.flat.specs.BodyLaws.{passed}
use Rattle.flat.specs.LevelLaws.{body_same}
use Rattle.chunks.specs.Sums.{count-more}
use Rattle.angles.specs.Angles.{above_before, above-behind, above-next, same_or_not, stack-next}
use Rattle.angles.specs.Groups.{Stands, Turns, above_in, boundary_in, groups_of}
use Rattle.angles.specs.declared.Groups.{Groups}
use Rattle.bodies.specs.Chain.{Chain, Chained, FitIn, Pending, added, added-fits, set-elsewhere, set_there}
use Rattle.bodies.specs.Settling.{Settled}
use Rattle.bodies.specs.declared.Searches.{Searches}
use Rattle.bodies.specs.declared.Sought.{Sought}
use Rattle.bodies.specs.declared.Sought.TheVariants.{Brace, Nothing, Ongoing, Unknown}
use Rattle.bodies.specs.declared.Walk.{Walk}

-- how many square brackets were opened, and closed, from the first place to that of a search, and the level there
abbrev pub opened_before : (s starts : List ℕ) → ℕ → ℕ
opened_before s starts i = count_from square_open s (get_or starts 0 0) (get_or starts i 0 - get_or starts 0 0)

abbrev pub closed_before : (s starts : List ℕ) → ℕ → ℕ
closed_before s starts i = count_from square_close s (get_or starts 0 0) (get_or starts i 0 - get_or starts 0 0)

abbrev pub level_of : (s starts : List ℕ) → ℕ → ℕ
level_of s starts i = 2048 + opened_before s starts i - closed_before s starts i

-- the walk is at a level that is kept
abbrev pub AtLevel : Walk → ℕ → Type 0
AtLevel w k = (k ≤ 4096) × (k + w.closed ≡ 2048 + w.opened)

-- a search is at depth 0
abbrev pub Ends : Walk → (ℕ → ℕ) → ℕ → Type 0
Ends w level i = (boundary_in w.groups ≤ i) × (level i + w.closed ≡ 2048 + w.opened)

-- a search ends at a byte that stands at a place, with what is told of it: at a ; it finds none, at a { the brace
abbrev pub EndsWith : (b at : ℕ) → (n : Sought) → Type 0
EndsWith b at n = ((b ≡ semicolon) × (n ≡ Nothing)) ⊎ ((b ≡ brace_open) × (n ≡ Brace at))

-- what a byte at a place tells of the pending searches: those for which a condition holds end at a { or ;
pub record Ended (level : ℕ → ℕ) (E : ℕ → Type 0) (b at : ℕ) (m n : List Sought) (links heads : List ℕ) : Type 0 where
  pub chain : Chain level n links heads
  pub told : (i : ℕ) → (get_or n i Unknown ≡ get_or m i Unknown) ⊎ (Pending m i × E i × EndsWith b at (get_or n i Unknown))
  pub stays : (i : ℕ) → Pending n i → Pending m i × ((E i → ⊥) ⊎ ((b ≢ brace_open) × (b ≢ semicolon)))

-- the same of the searches as a struct holds them
abbrev pub EndedIn : (level : ℕ → ℕ) → (E : ℕ → Type 0) → (b at : ℕ) → (x y : Searches) → Type 0
EndedIn level E b at x y = Ended level E b at x.told y.told y.links y.heads

-- the searches with one more, put before the chain of its level
abbrev pub noted : Searches → (next k : ℕ) → Searches
noted x next k =
    record {
      told = set x.told next Ongoing;
      links = set x.links next (get_or x.heads k 0);
      heads = set x.heads k (next + 1);
      pending = x.pending + 1;
      low = min x.low k;
      high = max x.high k;
    }

-- the same searches, of which as many or fewer are pending
pub record Fewer (x y : Searches) : Type 0 where
  pub fit : FitIn y
  pub pending : y.pending ≤ x.pending
  pub low : y.low ≡ x.low
  pub high : y.high ≡ x.high

-- the walk with other searches
abbrev pub with_searches : Walk → Searches → Walk
with_searches w x = record { at = w.at; next = w.next; opened = w.opened; closed = w.closed; groups = w.groups; searches = x }

-- the walk with one search more
abbrev pub begun : Walk → Searches → Walk
begun w x = record { at = w.at; next = w.next + 1; opened = w.opened; closed = w.closed; groups = w.groups; searches = x }

-- the next search is put before the chain of the walk's level, where it is one of those kept; else nothing is noted of it
abbrev pub Adds : (w v : Walk) → Type 0
Adds w v = (v ≡ begun w w.searches) ⊎ ((k : ℕ) × AtLevel w k × (v ≡ begun w (noted w.searches w.next k)))

-- the next search begins where the walk is, or nothing changes
abbrev pub Begins : List ℕ → (w v : Walk) → Type 0
Begins starts w v = (v ≡ w) ⊎ ((w.next < 2048) × (get_or starts w.next 0 ≡ w.at) × Adds w v)

-- the search that begins at the place of an index
abbrev pub sought : (s starts : List ℕ) → ℕ → Option ℕ
sought s starts i = body_at 0 0 0 (get_or starts i 0) (drop (get_or starts i 0) s)

-- it goes on where the walk is
abbrev pub Tracks : (s starts : List ℕ) → Walk → ℕ → Type 0
Tracks s starts w i =
    sought s starts i
    ≡ body_at (above_in w.groups i) (closed_before s starts i + w.opened) (opened_before s starts i + w.closed) w.at (drop w.at s)

-- what is told of a search that finds a place or none
pub record Tells (n : Sought) (found : Option ℕ) : Type 0 where
  pub none_found : n ≡ Nothing → found ≡ none
  pub brace-found : (p : ℕ) → n ≡ Brace p → found ≡ some p

-- the walk has come to a place, with searches pending
pub record Kept (s starts : List ℕ) (w : Walk) : Type 0 where
  pub behind : get_or starts 0 0 ≤ w.at
  pub inside : w.at ≤ length s
  pub small : length s ≤ 4294967292
  pub opened-is : w.opened ≡ count_from square_open s (get_or starts 0 0) (w.at - get_or starts 0 0)
  pub closed_is : w.closed ≡ count_from square_close s (get_or starts 0 0) (w.at - get_or starts 0 0)
  pub few : w.searches.pending ≤ w.next
  pub stack : Stands w.groups w.next w.at
  pub fits : FitIn w.searches
  pub chain : Chained (level_of s starts) w.searches
  pub before : (i : ℕ) → Pending w.searches.told i → i < w.next
  pub whole : (i : ℕ) → Pending w.searches.told i → closed_before s starts i ≤ 2048 + opened_before s starts i
  pub tracked : (i : ℕ) → Pending w.searches.told i → Tracks s starts w i
  pub low-most : w.searches.low ≤ 4096
  pub high-most : w.searches.high ≤ 4096
  pub between : (i : ℕ) → Pending w.searches.told i → (w.searches.low ≤ level_of s starts i) × (level_of s starts i ≤ w.searches.high)
  pub tells : (i : ℕ) → Tells (get_or w.searches.told i Unknown) (sought s starts i)

-- no search has begun
pub record Fresh (x : Searches) : Type 0 where
  pub fits : FitIn x
  pub nothing-told : (i : ℕ) → get_or x.told i Unknown ≡ Unknown
  pub no-head : (k : ℕ) → get_or x.heads k 0 ≡ 0
  pub none-pending : x.pending ≡ 0
  pub low-most : x.low ≤ 4096
  pub high-most : x.high ≤ 4096

-- what is told of the searches once the walk has come to a place: at the end of the text those that are pending find none either
pub record Told (s starts : List ℕ) (at : ℕ) (m : List Sought) : Type 0 where
  pub room : length m ≡ 2048
  pub tells : (i : ℕ) → Tells (get_or m i Unknown) (sought s starts i)
  pub rest : length s ≤ at → (i : ℕ) → Pending m i → sought s starts i ≡ none

-- what is told of a search is the same as before, or was that it is pending and is that it finds none
abbrev pub Rests : (earlier later : Sought) → Type 0
Rests earlier later = (later ≡ earlier) ⊎ ((earlier ≡ Ongoing) × (later ≡ Nothing))

abbrev pub Rest : (m n : List Sought) → Type 0
Rest m n = (i : ℕ) → Rests (get_or m i Unknown) (get_or n i Unknown)

-- of a search that is not known, or goes on, nothing is told
pub tells-unknown : (n : Sought) (found : Option ℕ) → n ≡ Unknown → Tells n found
tells-unknown n found h = record { none_found = λ e. cc; brace-found = λ p e. cc }

pub tells-ongoing : (n : Sought) (found : Option ℕ) → n ≡ Ongoing → Tells n found
tells-ongoing n found h = record { none_found = λ e. cc; brace-found = λ p e. cc }

pub tells_none : (n : Sought) (found : Option ℕ) → n ≡ Nothing → found ≡ none → Tells n found
tells_none n found h f = record { none_found = λ e. f; brace-found = λ p e. cc }

pub tells-brace : (n : Sought) (at : ℕ) (found : Option ℕ) → n ≡ Brace at → found ≡ some at → Tells n found
tells-brace n at found h f = record { none_found = λ z. cc; brace-found = λ p z. cc }

-- a search that has ended is not pending
ends-over : (b at : ℕ) (n : Sought) → EndsWith b at n → n ≡ Ongoing → ⊥
ends-over b at n (inl e) p = let q = e.1 in cc
ends-over b at n (inr e) p = let q = e.1 in cc

-- what a byte ends
pub ended-there : (level : ℕ → ℕ) (E : ℕ → Type 0) (b at : ℕ) (told : Sought) (m n : List Sought) (links heads : List ℕ) → EndsWith b at told → Settled level E told m n links heads
    → Ended level E b at m n links heads
ended-there level E b at told m n links heads e t =
    record {
      chain = t.done.chain;
      told = λ i. elim (t.done.same i) [ inl k ↦ inl k | inr k ↦ inr (k.0, k.1, subst (EndsWith b at) (sym k.2) e) ];
      stays = λ i p. elim (t.done.same i) [ inl k ↦ (sym k ∙ p, inl (t.gone i p)) | inr k ↦ absurd (ends-over b at told e (sym k.2 ∙ p)) ];
    }

pub ended-other : (level : ℕ → ℕ) (E : ℕ → Type 0) (b at : ℕ) (m : List Sought) (links heads : List ℕ) → b ≢ brace_open → b ≢ semicolon → Chain level m links heads → Ended level E b at m m links heads
ended-other level E b at m links heads o c h = record { chain = h; told = λ i. inl refl; stays = λ i p. (p, inr (o, c)) }

-- at the beginning
pub kept-first : (s starts : List ℕ) (g : Groups) (x : Searches) → get_or starts 0 0 ≤ length s → length s ≤ 4294967292 → Stands g 0 (get_or starts 0 0) → Fresh x
    → Kept s starts (record { at = get_or starts 0 0; next = 0; opened = 0; closed = 0; groups = g; searches = x })
unfolding count_from
kept-first s starts g x h l stands f =
    let z : get_or starts 0 0 - get_or starts 0 0 ≡ 0 = omega arith in
    record {
      behind = omega arith;
      inside = h;
      small = l;
      opened-is = rw z;
      closed_is = rw z;
      few = omega (arith, f.none-pending);
      stack = stands;
      fits = f.fits;
      chain =
          record {
            inside = λ i p. absurd (none-pending i p);
            heads_last = λ i p. absurd (none-pending i p);
            heads_is = λ k j e. absurd (omega (arith, e, f.no-head k));
            links_last = λ i j p. absurd (none-pending i p);
            links_is = λ j k p. absurd (none-pending j p);
          };
      before = λ i p. absurd (none-pending i p);
      whole = λ i p. absurd (none-pending i p);
      tracked = λ i p. absurd (none-pending i p);
      low-most = f.low-most;
      high-most = f.high-most;
      between = λ i p. absurd (none-pending i p);
      tells = λ i. tells-unknown _ _ (f.nothing-told i);
    } where
      none-pending : (i : ℕ) → Pending x.told i → ⊥
      none-pending i p = let q = f.nothing-told i in cc

-- the walk stays where it is
pub begins-at : (starts : List ℕ) (w v : Walk) → Begins starts w v → v.at ≡ w.at
begins-at starts w v (inl e) = ap (λ x. x.at) e
begins-at starts w v (inr e) = elim e.2 [ inl a ↦ ap (λ x. x.at) a | inr a ↦ ap (λ x. x.at) a.2 ]

-- the next search begins
module _ (s starts : List ℕ) (w : Walk) (k : Kept s starts w) where
  abbrev i : ℕ
  i = w.next

  abbrev m : List Sought
  m = w.searches.told

  module _ (within : w.next < 2048) (here : get_or starts w.next 0 ≡ w.at) where
    stands-next : Stands w.groups (w.next + 1) w.at
    stands-next = stack-next w.next w.at (groups_of w.groups) within k.stack

    kept_same : Kept s starts (begun w w.searches)
    kept_same =
        record {
          behind = k.behind;
          inside = k.inside;
          small = k.small;
          opened-is = k.opened-is;
          closed_is = k.closed_is;
          few = (let h = k.few in omega (arith, h));
          stack = stands-next;
          fits = k.fits;
          chain = k.chain;
          before = λ j p. (let h = k.before j p in omega (arith, h));
          whole = k.whole;
          tracked = k.tracked;
          low-most = k.low-most;
          high-most = k.high-most;
          between = k.between;
          tells = k.tells;
        }

    opened-here : opened_before s starts i ≡ w.opened
    opened-here = ap (λ p. count_from square_open s (get_or starts 0 0) (p - get_or starts 0 0)) here ∙ sym k.opened-is

    closed-here : closed_before s starts i ≡ w.closed
    closed-here = ap (λ p. count_from square_close s (get_or starts 0 0) (p - get_or starts 0 0)) here ∙ sym k.closed_is

    tracks_itself : Tracks s starts w i
    tracks_itself =
        ap (λ p. body_at 0 0 0 p (drop p s)) here
        ∙ body_same (drop w.at s) 0 0 0 (closed_before s starts i + w.opened) (opened_before s starts i + w.closed) w.at (omega (arith, opened-here, closed-here))
        ∙ ap (λ n. body_at n (closed_before s starts i + w.opened) (opened_before s starts i + w.closed) w.at (drop w.at s))
        (sym (above-next w.next w.at (groups_of w.groups) k.stack))

    module _ (level : ℕ) (l : AtLevel w level) where
      abbrev numbers : List Sought
      numbers = set m w.next Ongoing

      earlier : (j : ℕ) → j ≢ i → Pending numbers j → Pending m j
      earlier j e p = sym (set-elsewhere m i Ongoing j e) ∙ p

      at_level : level_of s starts i ≡ level
      at_level = omega (arith, opened-here, closed-here, l.1)

      kept-added : Kept s starts (begun w (noted w.searches w.next level))
      kept-added =
          record {
            behind = k.behind;
            inside = k.inside;
            small = k.small;
            opened-is = k.opened-is;
            closed_is = k.closed_is;
            few = (let h = k.few in omega (arith, h));
            stack = stands-next;
            fits = added-fits (level_of s starts) m w.searches.links w.searches.heads level i k.fits k.chain k.before at_level l.0 within;
            chain = added (level_of s starts) m w.searches.links w.searches.heads level i k.fits k.chain k.before at_level l.0 within;
            before = λ j p. elim (same_or_not j i) [ inl e ↦ omega (arith, e) | inr e ↦ (let h = k.before j (earlier j e p) in omega (arith, h)) ];
            whole = λ j p. elim (same_or_not j i) [
              | inl e ↦ subst (λ x. closed_before s starts x ≤ 2048 + opened_before s starts x) (sym e) (omega (arith, opened-here, closed-here, l.1))
              | inr e ↦ k.whole j (earlier j e p)
            ];
            tracked = λ j p. elim (same_or_not j i) [ inl e ↦ subst (Tracks s starts w) (sym e) tracks_itself | inr e ↦ k.tracked j (earlier j e p) ];
            low-most = (let h = k.low-most in omega (arith, h));
            high-most = (let h = k.high-most in omega (arith, h, l.0));
            between = λ j p. elim (same_or_not j i) [
              | inl e ↦ (let g : level_of s starts j ≡ level = ap (level_of s starts) e ∙ at_level in (omega (arith, g), omega (arith, g)))
              | inr e ↦ (let b = k.between j (earlier j e p) in (omega (arith, b.0), omega (arith, b.1)))
            ];
            tells = λ j. elim (same_or_not j i) [
              | inl e ↦ (let z : get_or numbers j Unknown ≡ Ongoing = ap (λ x. get_or numbers x Unknown) e ∙ set_there m i Ongoing (omega (arith, within, k.fits.room)) in tells-ongoing _ _ z)
              | inr e ↦ subst (λ n. Tells n (sought s starts j)) (sym (set-elsewhere m i Ongoing j e)) (k.tells j)
            ];
          }

    kept-noted : (v : Walk) → Adds w v → Kept s starts v
    kept-noted v (inl e) = rw e kept_same
    kept-noted v (inr e) = rw e.2 (kept-added e.0 e.1)

  pub kept-begun : (v : Walk) → Begins starts w v → Kept s starts v
  kept-begun v (inl e) = rw e k
  kept-begun v (inr e) = kept-noted e.0 e.1 v e.2

-- a search at depth 0 ends at a { or ;
module _ (angle opened closed : ℕ) where
  flat-is : angle ≡ 0 → opened ≡ closed → flat angle opened closed ≡ true
  unfolding flat
  flat-is a e = rw (eq-eqb angle 0 a, eq-eqb opened closed e)

  flat-tells : flat angle opened closed ≡ true → (angle ≡ 0) × (opened ≡ closed)
  unfolding flat
  flat-tells h = (eqb-true angle 0 (and_left (eqb angle 0) (eqb opened closed) h), eqb-true opened closed (and_right (eqb angle 0) (eqb opened closed) h))

  ends-none : (s : List ℕ) (at : ℕ) → at < length s → flat angle opened closed ≡ true → get_or s at 0 ≡ semicolon → body_at angle opened closed at (drop at s) ≡ none
  ends-none s at h f e = body-step s at h angle opened closed ∙ rw (f, e)

  ends_some : (s : List ℕ) (at : ℕ) → at < length s → flat angle opened closed ≡ true → get_or s at 0 ≡ brace_open → body_at angle opened closed at (drop at s) ≡ some at
  ends_some s at h f e = body-step s at h angle opened closed ∙ rw (f, e)

  -- the number with which it ends tells what it finds
  ends-tells : (s : List ℕ) (at : ℕ) (n : Sought) → at < length s → flat angle opened closed ≡ true → EndsWith (get_or s at 0) at n → Tells n (body_at angle opened closed at (drop at s))
  ends-tells s at n h f (inl e) = tells_none _ _ e.1 (ends-none s at h f e.0)
  ends-tells s at n h f (inr e) = tells-brace _ at _ e.1 (ends_some s at h f e.0)

-- the walk goes past a byte
module _ (s starts : List ℕ) (w : Walk) (k : Kept s starts w) (h : w.at < length s) where
  abbrev byte : ℕ
  byte = get_or s w.at 0

  abbrev angle_of : ℕ → ℕ
  angle_of i = above_in w.groups i

  -- a search is at depth 0 where it ends
  module _ (i : ℕ) (p : Pending w.searches.told i) where
    ends-flat : Ends w (level_of s starts) i → flat (angle_of i) (closed_before s starts i + w.opened) (opened_before s starts i + w.closed) ≡ true
    ends-flat e = flat-is _ _ _ (above-behind (groups_of w.groups) i e.0) (let l = k.whole i p in omega (arith, e.1, l))

    flat-ends : flat (angle_of i) (closed_before s starts i + w.opened) (opened_before s starts i + w.closed) ≡ true → Ends w (level_of s starts) i
    flat-ends f =
        let t = flat-tells _ _ _ f in
        (above_before w.next w.at (groups_of w.groups) i k.stack t.0, let l = k.whole i p in omega (arith, t.1, l))

  module _ (x : Searches) (f : Fewer w.searches x)
      (e : EndedIn (level_of s starts) (Ends w (level_of s starts)) byte w.at w.searches x)
      (g : Groups) (t : Turns (angle_after byte) w.next (w.at + 1) w.groups g)
      (opened closed : ℕ) (o : opened ≡ count_after square_open byte w.opened) (c : closed ≡ count_after square_close byte w.closed) where
    abbrev further : Walk
    further = record { at = w.at + 1; next = w.next; opened = opened; closed = closed; groups = g; searches = x }

    goes_on : (i : ℕ) → Pending x.told i → Tracks s starts further i
    goes_on i p =
        let q = e.stays i p in
        k.tracked i q.0
        ∙ passed s (angle_of i) (closed_before s starts i + w.opened) (opened_before s starts i + w.closed) w.at h
        (elim q.1 [
          | inl n ↦ inl (elim (whether (flat (angle_of i) (closed_before s starts i + w.opened) (opened_before s starts i + w.closed))) [ inl f ↦ absurd (n (flat-ends i q.0 f)) | inr f ↦ f ])
          | inr n ↦ inr n
        ])
        ∙ same-counts _ _ _ _ _ _
        (t.depth i (k.before i q.0))
        (count-behind square_open byte (closed_before s starts i) w.opened ∙ ap (λ n. closed_before s starts i + n) (sym o))
        (count-behind square_close byte (opened_before s starts i) w.closed ∙ ap (λ n. opened_before s starts i + n) (sym c)) where
          same-counts : (a b d e f g : ℕ) → a ≡ b → d ≡ e → f ≡ g → body_at a d f (w.at + 1) (drop (w.at + 1) s) ≡ body_at b e g (w.at + 1) (drop (w.at + 1) s)
          same-counts a b d e f g ab de fg = rw (ab, de, fg)

    pub kept-further : Kept s starts (record { at = w.at + 1; next = w.next; opened = opened; closed = closed; groups = g; searches = x })
    kept-further =
        record {
          behind = (let b = k.behind in omega (arith, b));
          inside = omega (arith, h);
          small = k.small;
          opened-is = o ∙ count-more square_open s (get_or starts 0 0) w.at w.opened k.behind k.opened-is;
          closed_is = c ∙ count-more square_close s (get_or starts 0 0) w.at w.closed k.behind k.closed_is;
          few = (let b = k.few in omega (arith, b, f.pending));
          stack = t.stack;
          fits = f.fit;
          chain = e.chain;
          before = λ i p. k.before i (e.stays i p).0;
          whole = λ i p. k.whole i (e.stays i p).0;
          tracked = goes_on;
          low-most = omega (arith, f.low, k.low-most);
          high-most = omega (arith, f.high, k.high-most);
          between = λ i p. (let b = k.between i (e.stays i p).0 in (omega (arith, f.low, b.0), omega (arith, f.high, b.1)));
          tells =
              λ i. elim (e.told i) [
                | inl v ↦ subst (λ n. Tells n (sought s starts i)) (sym v) (k.tells i)
                | inr v ↦ subst (Tells (get_or x.told i Unknown)) (sym (k.tracked i v.0)) (ends-tells _ _ _ s w.at _ h (ends-flat i v.0 v.1) v.2)
              ];
        }

-- no more is counted than a text has bytes
module _ (s starts : List ℕ) (w : Walk) (k : Kept s starts w) where
  pub opened_before_here : w.opened ≤ w.at
  opened_before_here = omega (arith, k.opened-is, count_most square_open s (get_or starts 0 0) (w.at - get_or starts 0 0))

  pub closed_before_here : w.closed ≤ w.at
  closed_before_here = omega (arith, k.closed_is, count_most square_close s (get_or starts 0 0) (w.at - get_or starts 0 0))

  pub opened_most : w.opened ≤ 4294967292
  opened_most = omega (arith, opened_before_here, k.inside, k.small)

  pub closed_most : w.closed ≤ 4294967292
  closed_most = omega (arith, closed_before_here, k.inside, k.small)

-- what is told of the searches then
pub kept-told : (s starts : List ℕ) (w : Walk) → Kept s starts w → Told s starts w.at w.searches.told
kept-told s starts w k =
    record { room = k.fits.room; tells = k.tells; rest = λ l i p. k.tracked i p ∙ body_end s w.at l _ _ _ }
