-- The walk passes a chunk whole, where no search begins in it and no pending one ends. The levels between which searches are pending tell the latter.
use Rattle.std.specs.Prelude.{ℕ, ◌+◌, ◌-◌, ◌≤◌, ◌<◌, ◌≡◌, ◌⊎◌, ◌≢◌, List, Option, Some, None, drop, get_or}
use Rattle.std.proofs.Common.{ap, subst, ◌∙◌, inl, inr, arith}
use Rattle.text_rules.specs.Classes.{square_close, square_open}
use Rattle.source_rules.specs.Finding.{body_at}
use Rattle.blocks.specs.Blocks.{count_most, count-sum, count_from}
use Rattle.chunks.specs.Passing.{Covers, MissesEnds}
use Rattle.chunks.specs.declared.Chunk.{Chunk}
use Rattle.chunks.specs.declared.Ends.{Ends}
use Rattle.angles.specs.Angles.{less, more}
use Rattle.angles.specs.Groups.{Turns, above_in}
use Rattle.angles.specs.declared.Groups.{Groups}
use Rattle.bodies.specs.Chain.{Pending}
use Rattle.bodies.specs.Walking.{Kept, Tracks, closed_before, level_of, opened_before, with_searches}
use Rattle.bodies.specs.declared.Searches.{Searches}
use Rattle.bodies.specs.declared.Walk.{Walk}

-- the searches with other levels, of which none with a pending search is left out
pub record Narrows (x y : Searches) : Type 0 where
  pub told : y.told ≡ x.told
  pub links : y.links ≡ x.links
  pub heads : y.heads ≡ x.heads
  pub pending : y.pending ≡ x.pending
  pub low-most : y.low ≤ 4096
  pub high-most : y.high ≤ 4096
  pub low : (k : ℕ) → get_or x.heads k 0 ≢ 0 → x.low ≤ k → y.low ≤ k
  pub high : (k : ℕ) → get_or x.heads k 0 ≢ 0 → k ≤ x.high → k ≤ y.high

-- a chunk misses all searches that have begun, or all between two levels; one in which none can end misses them all
abbrev pub MissedEnds : Option (Ends ℕ) → Walk → Type 0
MissedEnds None w = Unit {0}
MissedEnds (Some e) w =
    ((i : ℕ) → i < w.next → e.ended < above_in w.groups i)
    ⊎ ((2048 + w.searches.high + w.closed < e.low + w.opened) ⊎ (e.high + w.opened < 2048 + w.searches.low + w.closed))

abbrev pub Missed : Chunk ℕ → Walk → Type 0
Missed c = MissedEnds c.ends

-- a depth behind a chunk
abbrev pub depth_behind : Chunk ℕ → ℕ → ℕ
depth_behind c depth = more c.ups (less c.downs depth)

-- the walk behind it
abbrev pub crossed : Chunk ℕ → Walk → Groups → Walk
crossed c w g =
    record { at = w.at + 4096; next = w.next; opened = w.opened + c.opened; closed = w.closed + c.closed; groups = g; searches = w.searches }

-- so many brackets stand in it at most
module _ (s : List ℕ) (at : ℕ) (c : Chunk ℕ) (y : Covers s at c) where
  pub chunk_opened : c.opened ≤ 4096
  chunk_opened = omega (arith, y.passing.opened-is, count_most square_open s at (at + 4096 - at))

  pub chunk_closed : c.closed ≤ 4096
  chunk_closed = omega (arith, y.passing.closed_is, count_most square_close s at (at + 4096 - at))

  pub chunk_ups : c.ups ≤ 4096
  chunk_ups = omega (arith, y.passing.ups_most)

-- what is counted up to a chunk and in it
count_on : (x : ℕ) (s : List ℕ) (start at n more : ℕ) → start ≤ at → n ≡ count_from x s start (at - start) → more ≡ count_from x s at (at + 4096 - at)
    → n + more ≡ count_from x s start (at + 4096 - start)
count_on x s start at n more h e f =
    let p : start + (at - start) ≡ at = omega arith in
    let q : at + 4096 - at ≡ 4096 = omega arith in
    let r : at - start + 4096 ≡ at + 4096 - start = omega arith in
    let g = ap (λ k. count_from x s at k) q in
    let u = ap (λ k. count_from x s k 4096) p in
    let v = ap (λ k. count_from x s start k) r in
    omega (arith, e, f, g, u, v, count-sum x s start (at - start) 4096)

module _ (s starts : List ℕ) (w : Walk) (k : Kept s starts w) where
  module _ (y : Searches) (n : Narrows w.searches y) where
    still : (i : ℕ) → Pending y.told i → Pending w.searches.told i
    still i = subst (λ m. Pending m i) n.told

    pub kept_narrowed : Kept s starts (with_searches w y)
    kept_narrowed =
        record {
          behind = k.behind;
          inside = k.inside;
          small = k.small;
          opened-is = k.opened-is;
          closed_is = k.closed_is;
          few = omega (arith, n.pending, k.few);
          stack = k.stack;
          fits = rw (n.told, n.links, n.heads) k.fits;
          chain = rw (n.told, n.links, n.heads) k.chain;
          before = λ i p. k.before i (still i p);
          whole = λ i p. k.whole i (still i p);
          tracked = λ i p. k.tracked i (still i p);
          low-most = n.low-most;
          high-most = n.high-most;
          between =
              λ i p.
              let l = k.chain.heads_last i (still i p) in
              let b = k.between i (still i p) in
              let some : get_or w.searches.heads (level_of s starts i) 0 ≢ 0 = λ z. omega (arith, l, z) in
              (n.low (level_of s starts i) some b.0, n.high (level_of s starts i) some b.1);
          tells = rw n.told k.tells;
        }

  misses_each : (o : Option (Ends ℕ)) → MissedEnds o w → (i : ℕ) → Pending w.searches.told i
      → MissesEnds o (above_in w.groups i) (closed_before s starts i + w.opened) (opened_before s starts i + w.closed)
  misses_each None d i p = tt
  misses_each (Some e) (inl a) i p = inl (a i (k.before i p))
  misses_each (Some e) (inr (inl a)) i p = inr (inl (omega (arith, k.whole i p, (k.between i p).1, a)))
  misses_each (Some e) (inr (inr a)) i p = inr (inr (omega (arith, k.whole i p, (k.between i p).0, a)))

  module _ (c : Chunk ℕ) (y : Covers s w.at c) (d : Missed c w) where
    module _ (g : Groups) (t : Turns (depth_behind c) w.next (w.at + 4096) w.groups g) where
      goes_on : (i : ℕ) → Pending w.searches.told i → Tracks s starts (crossed c w g) i
      goes_on i p =
          k.tracked i p
          ∙ y.passing.passes _ _ _ (misses_each c.ends d i p)
          ∙ same-counts _ _ _ _ _ _ (t.depth i (k.before i p)) (omega arith) (omega arith) where
            same-counts : (a b d e f g : ℕ) → a ≡ b → d ≡ e → f ≡ g → body_at a d f (w.at + 4096) (drop (w.at + 4096) s) ≡ body_at b e g (w.at + 4096) (drop (w.at + 4096) s)
            same-counts a b d e f g ab de fg = rw (ab, de, fg)

      pub kept-crossed : Kept s starts (crossed c w g)
      kept-crossed =
          record {
            behind = (let b = k.behind in omega (arith, b));
            inside = y.inside;
            small = k.small;
            opened-is = count_on square_open s (get_or starts 0 0) w.at w.opened c.opened k.behind k.opened-is y.passing.opened-is;
            closed_is = count_on square_close s (get_or starts 0 0) w.at w.closed c.closed k.behind k.closed_is y.passing.closed_is;
            few = k.few;
            stack = t.stack;
            fits = k.fits;
            chain = k.chain;
            before = k.before;
            whole = k.whole;
            tracked = goes_on;
            low-most = k.low-most;
            high-most = k.high-most;
            between = k.between;
            tells = k.tells;
          }
