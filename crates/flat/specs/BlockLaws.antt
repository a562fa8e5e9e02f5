-- The search for a body past many bytes at once.
use Prim.Native.Nat.{ℕ, zero, suc, ◌+◌, ◌-◌, ◌≤◌, ◌<◌}
use Rattle.std.specs.Prelude.{◌≡◌, ◌⊎◌, ◌≢◌, false, List, eqb, length, drop}
use Rattle.std.proofs.Math.Path.{refl}
use Rattle.std.proofs.Common.{ap, subst, sym, ◌∙◌, inl, inr, sub-one, arith, eqb-true, ne_eqb}
use Rattle.std.proofs.Math.ListN.{get_or}
use Rattle.text_rules.specs.BytesLaws.{whether}
use Rattle.text_rules.specs.Classes.{angle_close, angle_open, brace_open, semicolon, square_close, square_open}
use Rattle.text_rules.specs.Search.{count_after}
use Rattle.source_rules.specs.Finding.{angle_after, body_at, flat}
use Rattle.blocks.specs.Blocks.{Lacks, count-behind, count-hit, count_most, count-sum, count_from}
use Rattle.flat.specs.BodyLaws.{passed}
use Rattle.flat.specs.FlatLaws.{angle_raised, squares_raised}
use Rattle.flat.specs.Body.{Counted, Halts, Inside, Passable, Reaches, Tallies, body_from, counts_behind}
use Rattle.flat.specs.declared.Counts.{Counts}
use Rattle.flat.specs.declared.Halt.{Halt}
use Rattle.flat.specs.declared.Reached.{Reached}
use Rattle.flat.specs.declared.Reached.TheVariants.{Brace, Ended, Further}
use Rattle.flat.specs.declared.Tally.{Tally}

-- the angle depth behind a byte, told by what was counted before it: a < may follow only where each > has closed one
angle_behind : (b angle ups downs : ℕ) → (b ≢ angle_open) ⊎ (downs ≤ angle) → angle_after b (angle + ups - downs) ≡ angle + count_after angle_open b ups - count_after angle_close b downs
unfolding angle_after count_after
angle_behind b angle ups downs h =
    elim (whether (eqb b angle_open)) [
      | inl o ↦
          let e : b ≡ angle_open = eqb-true b angle_open o in
          rw (o, ne_eqb b angle_close (λ k. omega (arith, e, k)))
          (elim h [ inl k ↦ absurd (k e) | inr k ↦ omega arith ])
      | inr o ↦ elim (whether (eqb b angle_close)) [ inl t ↦ rw (o, t, sym (sub-one (angle + ups - downs))) (omega arith) | inr t ↦ rw (o, t) ]
    ]

same_body : (s : List ℕ) (a b o p c d i j : ℕ) → a ≡ b → o ≡ p → c ≡ d → i ≡ j → body_at a o c i (drop i s) ≡ body_at b p d j (drop j s)
same_body s a b o p c d i j ab op cd ij = rw (ab, op, cd, ij)

module _ (s : List ℕ) (at : ℕ) where
  pub count_lacking : (x many : ℕ) → Lacks x s at many → count_from x s at many ≡ 0
  unfolding count_from count_after
  count_lacking x zero h = refl
  count_lacking x (suc many) h = rw (ne_eqb (get_or s (at + many) 0) x (h many (omega arith))) (count_lacking x many (λ i k. h i (omega arith)))

  count_grows : (x i many : ℕ) → i ≤ many → count_from x s at i ≤ count_from x s at many
  count_grows x i many h =
      let e : i + (many - i) ≡ many = omega arith in
      let f : count_from x s at (i + (many - i)) ≡ count_from x s at many = ap (count_from x s at) e in
      omega (arith, count-sum x s at i (many - i), f)

  -- the byte behind so many ends no search, and the counts behind it tell the angle depth
  abbrev Goes : Counts → ℕ → Type 0
  Goes n i =
      let m = counts_behind s at i n in
      ((flat m.angle m.opened m.closed ≡ false) ⊎ ((get_or s (at + i) 0 ≢ brace_open) × (get_or s (at + i) 0 ≢ semicolon)))
      × ((get_or s (at + i) 0 ≢ angle_open) ⊎ (count_from angle_close s at i ≤ n.angle))

  goes_past : (n : Counts) (many : ℕ) → at + many ≤ length s → ((i : ℕ) → i < many → Goes n i) → body_from s at n ≡ body_from s (at + many) (counts_behind s at many n)
  unfolding count_from
  goes_past n zero h g = same_body s n.angle _ n.opened _ n.closed _ at _ (omega arith) (omega arith) (omega arith) (omega arith)
  goes_past n (suc many) h g =
      let b = get_or s (at + many) 0 in
      let m = counts_behind s at many n in
      let k = g many (omega arith) in
      goes_past n many (omega arith) (λ i j. g i (omega arith))
      ∙ passed s m.angle m.opened m.closed (at + many) (omega arith) k.0
      ∙ same_body s _ _ _ _ _ _ (at + many + 1) (at + suc many)
      (angle_behind b n.angle (count_from angle_open s at many) (count_from angle_close s at many) k.1)
      (count-behind square_open b n.opened (count_from square_open s at many))
      (count-behind square_close b n.closed (count_from square_close s at many))
      (omega arith)

  -- square depth is not 0 at any of the bytes
  inside_raised : (n : Counts) (i many : ℕ) → i < many → Inside s at many n → let m = counts_behind s at i n in flat m.angle m.opened m.closed ≡ false
  inside_raised n i many k h =
      let o = count_grows square_open i many (omega arith) in
      let c = count_grows square_close i many (omega arith) in
      squares_raised _ _ _ (λ z. elim h [ inl j ↦ omega (arith, o, c, j, z) | inr j ↦ omega (arith, o, c, j, z) ])

  -- a block that may be passed whole
  pub block-passed : (n : Counts) (many : ℕ) → at + many ≤ length s → Passable s at many n → body_from s at n ≡ body_from s (at + many) (counts_behind s at many n)
  block-passed n many h (inl p) =
      goes_past n many h (λ i k.
      let c = count_grows angle_close i many (omega arith) in
      (inl (angle_raised _ _ _ (omega (arith, c, p))), inr (omega (arith, c, p))))
  block-passed n many h (inr (a, p)) =
      goes_past n many h (λ i k. (
        elim p [ inl q ↦ inl (inside_raised n i many k q) | inr q ↦ inr (q.0 i k, q.1 i k) ],
        elim a [
          | inl q ↦ inl (λ e. omega (arith, q, count-hit angle_open s at i e, count_grows angle_open (i + 1) many (omega arith)))
          | inr q ↦ inr (omega (arith, q, count_grows angle_close i many (omega arith)))
        ],
      ))

pub tally_most : (s : List ℕ) (at : ℕ) (t : Tally) → Tallies s at t → (t.ups ≤ 16) × (t.opens ≤ 16) × (t.closes ≤ 16)
tally_most s at t e =
    (omega (arith, e.ups_is, count_most angle_open s at 16), omega (arith, e.opens-is, count_most square_open s at 16), omega (arith, e.closes-is, count_most square_close s at 16))

-- a search that came to a block goes on behind it, with its brackets counted
module _ (s : List ℕ) (from to : ℕ) (n : Counts) (at : ℕ) (m : Counts) (t : Tally) where
  pub block_halts : Halts s from to n (record { at = at; counts = m }) → Tallies s at t → at + 16 ≤ to → to ≤ length s → Passable s at 16 m → (angle : ℕ) → angle ≡ m.angle + t.ups - t.downs
      → Halts s from to n (record { at = at + 16; counts = record { angle = angle; opened = m.opened + t.opens; closed = m.closed + t.closes } })
  block_halts h e k l p angle z =
      let most = tally_most s at t e in
      record {
        further = omega (arith, h.further);
        before = k;
        same =
            h.same
            ∙ block-passed s at m 16 (omega arith) p
            ∙ same_body s _ angle _ (m.opened + t.opens) _ (m.closed + t.closes) (at + 16) (at + 16)
            (rw (sym e.ups_is, sym e.downs_is) (sym z)) (rw (sym e.opens-is)) (rw (sym e.closes-is)) refl;
        counted = record { angle_most = omega (arith, h.counted.angle_most, most.0); opened-most = omega (arith, h.counted.opened-most, most.1); closed-most = omega (arith, h.counted.closed-most, most.2) };
      }

-- a search that goes on where it came to
module _ (s : List ℕ) (from to : ℕ) (n : Counts) where
  pub halts_then : (q r : Halt) → Halts s from to n q → Halts s q.at to q.counts r → Halts s from to n r
  halts_then q r h g = record { further = omega (arith, h.further, g.further); before = g.before; same = h.same ∙ g.same; counted = g.counted }

  pub halts_further : (q : Halt) (stop : ℕ) (m : Counts) → Halts s from to n q → q.at ≤ stop → stop ≤ to → Reaches s q.at stop q.counts (Further m) → Halts s from to n (record { at = stop; counts = m })
  halts_further q stop m h k l g = record { further = omega (arith, h.further); before = l; same = h.same ∙ g.0; counted = g.1 }

  pub halts_end : (q : Halt) → Halts s from to n q → to ≤ q.at → Reaches s from to n (Further q.counts)
  halts_end q h k =
      let e : q.at ≡ to = omega (arith, h.before) in
      (h.same ∙ ap (λ i. body_from s i q.counts) e, subst (Counted q.counts) e h.counted)

  pub reaches_later : (at : ℕ) (m : Counts) (r : Reached) → body_from s from n ≡ body_from s at m → Reaches s at to m r → Reaches s from to n r
  reaches_later at m (Brace p) e h = e ∙ h
  reaches_later at m (Ended p) e h = e ∙ h
  reaches_later at m (Further k) e h = (e ∙ h.0, h.1)
