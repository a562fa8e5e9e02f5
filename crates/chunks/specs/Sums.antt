-- The sums of some bytes, from one byte to the next.
use Rattle.std.specs.Prelude.{ℕ, suc, ◌+◌, ◌-◌, ◌≤◌, ◌<◌, min, max, ◌≡◌, ◌⊎◌, ◌≢◌, false, List, Option, Some, None, length, drop, get_or}
use Rattle.std.proofs.Math.Path.{refl, sym}
use Rattle.std.proofs.Common.{ap, subst, ◌∙◌, sub-one, arith}
use Rattle.std.proofs.Math.Logic.{inl, inr}
use borrow.Author.Tests.{ne_eqb}
use Rattle.text_rules.specs.Classes.{angle_close, angle_open, brace_open, semicolon, square_close, square_open}
use Rattle.text_rules.specs.Search.{count_after}
use Rattle.source_rules.specs.Finding.{angle_after, body_at, flat}
use Rattle.source_rules.proofs.MeasuresLaws.{count-after}
use Rattle.blocks.specs.Blocks.{count-behind, count_none, count_from}
use Rattle.flat.specs.Body.{Plain}
use Rattle.flat.specs.BodyLaws.{passed}
use Rattle.flat.specs.FlatLaws.{angle_raised, squares_raised}
use Rattle.chunks.specs.Passing.{LevelsFit, Misses, MissesEnds, PassesBody}
use Rattle.chunks.specs.declared.Chunk.{Chunk}
use Rattle.chunks.specs.declared.Ends.{Ends}

-- bounds of the { and ; of some bytes that close so many >
abbrev pub EndsWithin : (downs : ℕ) → Option (Ends ℕ) → Type 0
EndsWithin downs None = Unit {0}
EndsWithin downs (Some e) = (e.ended ≤ downs) × (e.low ≤ 8192) × (e.high ≤ 8192)

ends_later : (downs downs' : ℕ) (o : Option (Ends ℕ)) → downs ≤ downs' → EndsWithin downs o → EndsWithin downs' o
ends_later downs downs' None h w = tt
ends_later downs downs' (Some e) h w = (omega (arith, h, w.0), w.1, w.2)

-- bounds of the sums of n bytes
pub record Within (n : ℕ) (c : Chunk ℕ) : Type 0 where
  pub angles_most : c.downs + c.ups ≤ n
  pub opened-most : c.opened ≤ n
  pub closed-most : c.closed ≤ n
  pub ends_most : EndsWithin c.downs c.ends

-- they bound the levels
pub levels_within : (n : ℕ) (c : Chunk ℕ) → Within n c → LevelsFit c.ends
levels_within n c w e is =
    let h = subst (EndsWithin c.downs) is w.ends_most in
    (omega (arith, h.1), omega (arith, h.2))

-- they hold for more bytes too
pub within_more : (n m : ℕ) (c : Chunk ℕ) → n ≤ m → Within n c → Within m c
within_more n m c h w =
    record {
      angles_most = omega (arith, h, w.angles_most);
      opened-most = omega (arith, h, w.opened-most);
      closed-most = omega (arith, h, w.closed-most);
      ends_most = w.ends_most;
    }

-- the sums of no bytes are 0, and they have no { or ;
abbrev pub nothing : Chunk ℕ
nothing = record { downs = 0; ups = 0; opened = 0; closed = 0; ends = None }

pub within_none : Within 0 nothing
within_none = record { angles_most = omega arith; opened-most = omega arith; closed-most = omega arith; ends_most = tt }

-- bytes with the sums c and a byte b behind them have the sums r: a search that misses r misses c, is not ended by b, and has the counts of r behind
-- it
pub record Behind (b : ℕ) (c r : Chunk ℕ) : Type 0 where
  pub angle_behind : (angle : ℕ) → angle_after b (angle - c.downs + c.ups) ≡ angle - r.downs + r.ups
  pub opened-behind : count_after square_open b c.opened ≡ r.opened
  pub closed-behind : count_after square_close b c.closed ≡ r.closed
  pub missed-before : (angle opened closed : ℕ) → Misses r angle opened closed → Misses c angle opened closed
  pub goes_on : (angle opened closed : ℕ) → Misses r angle opened closed
      → (flat (angle - c.downs + c.ups) (opened + c.opened) (closed + c.closed) ≡ false) ⊎ ((b ≢ brace_open) × (b ≢ semicolon))
  pub within : (n : ℕ) → n ≤ 4095 → Within n c → Within (n + 1) r

-- sums with so many more <, [ and ]
abbrev pub more : Chunk ℕ → (ups opened closed : ℕ) → Chunk ℕ
more c ups opened closed =
    record { downs = c.downs; ups = c.ups + ups; opened = c.opened + opened; closed = c.closed + closed; ends = c.ends }

-- sums with other angle brackets
abbrev pub angled : Chunk ℕ → (downs ups : ℕ) → Chunk ℕ
angled c downs ups = record { downs = downs; ups = ups; opened = c.opened; closed = c.closed; ends = c.ends }

-- the { and ; with one more, at a level and behind so many >
abbrev pub ends_with : Option (Ends ℕ) → (level ended : ℕ) → Ends ℕ
ends_with None level ended = record { low = level; high = level; ended = ended }
ends_with (Some e) level ended = record { low = min e.low level; high = max e.high level; ended = ended }

-- sums with one more { or ; that stands outside angle brackets
abbrev pub with_stop : Chunk ℕ → Chunk ℕ
with_stop c =
    record { downs = c.downs; ups = c.ups; opened = c.opened; closed = c.closed; ends = Some (ends_with c.ends (4096 + c.opened - c.closed) c.downs) }

-- the sums behind a byte that ends no search
module _ (b : ℕ) (c r : Chunk ℕ) (no-brace : b ≢ brace_open) (no-semicolon : b ≢ semicolon) (ends : r.ends ≡ c.ends) where
  pub behind-counted : ((angle : ℕ) → angle_after b (angle - c.downs + c.ups) ≡ angle - r.downs + r.ups)
      → count_after square_open b c.opened ≡ r.opened
      → count_after square_close b c.closed ≡ r.closed
      → c.downs ≤ r.downs
      → r.downs + r.ups ≤ c.downs + c.ups + 1
      → Behind b c r
  behind-counted angles opens closes downs most =
      record {
        angle_behind = angles;
        opened-behind = opens;
        closed-behind = closes;
        missed-before = λ angle opened closed m. rw ends at m;
        goes_on = λ angle opened closed m. inr (no-brace, no-semicolon);
        within = λ n h w. record {
          angles_most = omega (arith, most, w.angles_most);
          opened-most = omega (arith, opens, (count-after square_open b c.opened).1, w.opened-most);
          closed-most = omega (arith, closes, (count-after square_close b c.closed).1, w.closed-most);
          ends_most = ends_later c.downs r.downs r.ends downs (subst (EndsWithin c.downs) (sym ends) w.ends_most);
        };
      }

-- the sums behind each byte
module _ (b : ℕ) (c : Chunk ℕ) where
  pub behind_angle_open : b ≡ angle_open → Behind b c (more c 1 0 0)
  unfolding angle_after count_after
  behind_angle_open e =
      behind-counted b c (more c 1 0 0) (λ k. omega (arith, e, k)) (λ k. omega (arith, e, k)) refl (λ angle. rw e (omega arith)) (rw e (omega arith)) (rw e (omega arith)) (omega arith) (omega arith)

  pub behind_square_open : b ≡ square_open → Behind b c (more c 0 1 0)
  unfolding angle_after count_after
  behind_square_open e =
      behind-counted b c (more c 0 1 0) (λ k. omega (arith, e, k)) (λ k. omega (arith, e, k)) refl (λ angle. rw e (omega arith)) (rw e (omega arith)) (rw e (omega arith)) (omega arith) (omega arith)

  pub behind_square_close : b ≡ square_close → Behind b c (more c 0 0 1)
  unfolding angle_after count_after
  behind_square_close e =
      behind-counted b c (more c 0 0 1) (λ k. omega (arith, e, k)) (λ k. omega (arith, e, k)) refl (λ angle. rw e (omega arith)) (rw e (omega arith)) (rw e (omega arith)) (omega arith) (omega arith)

  pub behind_plain : Plain b → Behind b c c
  unfolding angle_after count_after
  behind_plain p =
      behind-counted b c c p.0 p.1 refl (λ angle. rw (ne_eqb b angle_open p.2, ne_eqb b angle_close p.3)) (rw (ne_eqb b square_open p.4)) (rw (ne_eqb b square_close p.5)) (omega arith) (omega arith)

  -- a > closes a < of these bytes, or one from before
  pub behind_angle_close : b ≡ angle_close → (downs ups : ℕ) → downs ≡ c.downs + (1 - c.ups) → ups ≡ c.ups - 1 → Behind b c (angled c downs ups)
  unfolding angle_after count_after
  behind_angle_close e downs ups d u =
      behind-counted b c (angled c downs ups) (λ k. omega (arith, e, k)) (λ k. omega (arith, e, k)) refl
      (λ angle. rw (e, sym (sub-one (angle - c.downs + c.ups))) (omega (arith, d, u))) (rw e) (rw e) (omega (arith, d)) (omega (arith, d, u))

-- the sums behind a { or ;
module _ (b : ℕ) (c : Chunk ℕ) (stop : (b ≡ brace_open) ⊎ (b ≡ semicolon)) where
  angle_stop : (angle : ℕ) → angle_after b angle ≡ angle
  unfolding angle_after
  angle_stop angle = elim stop [ inl e ↦ rw e | inr e ↦ rw e ]

  opened-stop : count_after square_open b c.opened ≡ c.opened
  unfolding count_after
  opened-stop = elim stop [ inl e ↦ rw e | inr e ↦ rw e ]

  closed-stop : count_after square_close b c.closed ≡ c.closed
  unfolding count_after
  closed-stop = elim stop [ inl e ↦ rw e | inr e ↦ rw e ]

  -- inside angle brackets it ends no search
  pub behind_inside : 0 < c.ups → Behind b c c
  behind_inside h =
      record {
        angle_behind = λ angle. angle_stop (angle - c.downs + c.ups);
        opened-behind = opened-stop;
        closed-behind = closed-stop;
        missed-before = λ angle opened closed m. m;
        goes_on = λ angle opened closed m. inl (angle_raised (angle - c.downs + c.ups) (opened + c.opened) (closed + c.closed) (omega arith));
        within = λ n k w. within_more n (n + 1) c (omega arith) w;
      }

  -- outside it ends none that misses it
  module _ (z : c.ups ≡ 0) (w : Within 4095 c) where
    abbrev level : ℕ
    level = 4096 + c.opened - c.closed

    abbrev MissesMet : Option (Ends ℕ) → (angle opened closed : ℕ) → Type 0
    MissesMet o angle opened closed = MissesEnds (Some (ends_with o level c.downs)) angle opened closed

    missed : (o : Option (Ends ℕ)) → EndsWithin c.downs o → (angle opened closed : ℕ) → MissesMet o angle opened closed → MissesEnds o angle opened closed
    missed None h angle opened closed m = tt
    missed (Some e) h angle opened closed (inl m) = inl (omega (arith, m, h.0))
    missed (Some e) h angle opened closed (inr (inl m)) = inr (inl (omega (arith, m)))
    missed (Some e) h angle opened closed (inr (inr m)) = inr (inr (omega (arith, m)))

    -- the level of the byte is between those of all
    between : (o : Option (Ends ℕ)) → ((ends_with o level c.downs).low ≤ level) × (level ≤ (ends_with o level c.downs).high) × ((ends_with o level c.downs).ended ≡ c.downs)
    between None = (omega arith, omega arith, refl)
    between (Some e) = (omega arith, omega arith, refl)

    not_flat : (o : Option (Ends ℕ)) (angle opened closed : ℕ) → MissesMet o angle opened closed → flat (angle - c.downs + c.ups) (opened + c.opened) (closed + c.closed) ≡ false
    not_flat o angle opened closed (inl m) = angle_raised (angle - c.downs + c.ups) (opened + c.opened) (closed + c.closed) (omega (arith, m, (between o).2))
    not_flat o angle opened closed (inr (inl m)) =
        squares_raised (angle - c.downs + c.ups) (opened + c.opened) (closed + c.closed) (λ e. omega (arith, m, e, w.closed-most, (between o).0))
    not_flat o angle opened closed (inr (inr m)) =
        squares_raised (angle - c.downs + c.ups) (opened + c.opened) (closed + c.closed) (λ e. omega (arith, m, e, w.closed-most, (between o).1))

    ends_low : (n : ℕ) → n ≤ 4095 → c.opened ≤ n → (o : Option (Ends ℕ)) → EndsWithin c.downs o → EndsWithin c.downs (Some (ends_with o level c.downs))
    ends_low n k h None v = (omega arith, omega (arith, k, h), omega (arith, k, h))
    ends_low n k h (Some e) v = (omega arith, omega (arith, v.1), omega (arith, k, h, v.2))

    pub behind_stop : Behind b c (with_stop c)
    behind_stop =
        record {
          angle_behind = λ angle. angle_stop (angle - c.downs + c.ups);
          opened-behind = opened-stop;
          closed-behind = closed-stop;
          missed-before = missed c.ends w.ends_most;
          goes_on = λ angle opened closed m. inl (not_flat c.ends angle opened closed m);
          within = λ n k v. record {
            angles_most = omega (arith, v.angles_most);
            opened-most = omega (arith, v.opened-most);
            closed-most = omega (arith, v.closed-most);
            ends_most = ends_low n k v.opened-most c.ends v.ends_most;
          };
        }

-- where there are no bytes, nothing changes
pub body-none : (s : List ℕ) (from : ℕ) (c : Chunk ℕ) → Within 0 c → PassesBody s from from c
body-none s from c w =
    let o : c.opened ≡ 0 = omega (arith, w.opened-most) in
    let k : c.closed ≡ 0 = omega (arith, w.closed-most) in
    let z : from - from ≡ 0 = omega arith in
    record {
      passes = λ angle opened closed m.
          let a : angle ≡ angle - c.downs + c.ups = omega (arith, w.angles_most) in
          let p : opened ≡ opened + c.opened = omega (arith, o) in
          let q : closed ≡ closed + c.closed = omega (arith, k) in
          ap (λ i. body_at i opened closed from (drop from s)) a
          ∙ ap (λ i. body_at (angle - c.downs + c.ups) i closed from (drop from s)) p
          ∙ ap (λ i. body_at (angle - c.downs + c.ups) (opened + c.opened) i from (drop from s)) q;
      opened-is = o ∙ sym (ap (λ i. count_from square_open s from i) z ∙ count_none square_open s from);
      closed_is = k ∙ sym (ap (λ i. count_from square_close s from i) z ∙ count_none square_close s from);
      ups_most = omega (arith, w.angles_most);
    }

-- one byte more is counted
pub count-more : (x : ℕ) (s : List ℕ) (from at n : ℕ) → from ≤ at → n ≡ count_from x s from (at - from) → count_after x (get_or s at 0) n ≡ count_from x s from (at + 1 - from)
unfolding count_from
count-more x s from at n h e =
    let a : at + 1 - from ≡ suc (at - from) = omega arith in
    let p : from + (at - from) ≡ at = omega arith in
    rw (a, p, e)

-- the sums of the bytes up to a place, and of the byte at it, are those up to the next place
pub body-next : (s : List ℕ) (from at : ℕ) (c r : Chunk ℕ) → from ≤ at → at < length s → PassesBody s from at c → Within (at + 1 - from) r → Behind (get_or s at 0) c r → PassesBody s from (at + 1) r
body-next s from at c r h i p w q =
    record {
      passes = λ angle opened closed m.
          let b = get_or s at 0 in
          let o : count_after square_open b (opened + c.opened) ≡ opened + r.opened = count-behind square_open b opened c.opened ∙ ap (λ k. opened + k) q.opened-behind in
          let k : count_after square_close b (closed + c.closed) ≡ closed + r.closed = count-behind square_close b closed c.closed ∙ ap (λ k. closed + k) q.closed-behind in
          p.passes angle opened closed (q.missed-before angle opened closed m)
          ∙ passed s (angle - c.downs + c.ups) (opened + c.opened) (closed + c.closed) at i (q.goes_on angle opened closed m)
          ∙ rw (q.angle_behind angle, o, k);
      opened-is = sym q.opened-behind ∙ count-more square_open s from at c.opened h p.opened-is;
      closed_is = sym q.closed-behind ∙ count-more square_close s from at c.closed h p.closed_is;
      ups_most = omega (arith, w.angles_most);
    }
