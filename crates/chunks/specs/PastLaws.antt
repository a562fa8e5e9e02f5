-- What the sums of a chunk tell of a search that passes it.
use Rattle.std.specs.Prelude.{ℕ, ◌+◌, ◌-◌, ◌≤◌, ◌≡◌, List, length, drop, Some}
use Rattle.std.proofs.Common.{ap, ◌∙◌, arith}
use Rattle.text_rules.specs.Classes.{round_close, round_open, square_close, square_open}
use Rattle.source_rules.specs.Brackets.{partner}
use Rattle.blocks.specs.Blocks.{count_most}
use Rattle.flat.specs.Body.{Counted}
use Rattle.flat.specs.declared.Counts.{Counts}
use Rattle.chunks.specs.Passing.{Covers, Misses, PassesBody, PassesRound, TellsCounts, TellsDepth}
use Rattle.chunks.specs.Table.{Describes}
use Rattle.chunks.specs.declared.Chunk.{Chunk}
use Rattle.chunks.specs.declared.Round.{Round}
use Rattle.chunks.specs.declared.Sums.{Sums}

-- a round bracket with as many open inside it as are closed in the chunk is sought on behind it
pub round_on : (s : List ℕ) (at : ℕ) (r : Round) (depth : ℕ) → PassesRound s at (at + 4096) r → r.opened ≤ 4096 → at + 4096 ≤ length s → depth ≤ at → r.closed ≤ depth
    → TellsDepth s at depth (Some (depth - r.closed + r.opened))
round_on s at r depth p o l d c = (
  l,
  omega (arith, o, d, c),
  λ more.
      let e : depth + more - r.closed + r.opened ≡ depth - r.closed + r.opened + more = omega (arith, c) in
      p (depth + more) (omega (arith, c)) ∙ ap (λ k. partner round_open round_close k (at + 4096) (drop (at + 4096) s)) e,
)

pub round-further : (s : List ℕ) (at : ℕ) (x : Sums) (depth : ℕ) → Describes s at x → at + 4096 ≤ length s → depth ≤ at → x.round.closed ≤ depth
    → TellsDepth s at depth (Some (depth - x.round.closed + x.round.opened))
round-further s at x depth h = round_on s at x.round depth h.round h.opened-most

-- what a search for a body has counted behind a chunk
abbrev pub counts_past : Chunk ℕ → Counts → Counts
counts_past c n = record { angle = n.angle - c.downs + c.ups; opened = n.opened + c.opened; closed = n.closed + c.closed }

-- the brackets that are counted in the bytes of a chunk are at most as many as these
pub brackets_most : (s : List ℕ) (from to : ℕ) (c : Chunk ℕ) → to ≤ from + 4096 → PassesBody s from to c → (c.ups ≤ 4096) × (c.opened ≤ 4096) × (c.closed ≤ 4096)
brackets_most s from to c l p =
    let many = to - from in (
      omega (arith, l, p.ups_most),
      omega (arith, l, p.opened-is, count_most square_open s from many),
      omega (arith, l, p.closed_is, count_most square_close s from many),
    )

-- counts stay counts further on
pub counted_further : (n : Counts) (at to : ℕ) → at ≤ to → Counted n at → Counted n to
counted_further n at to h k =
    record { angle_most = omega (arith, k.angle_most, h); opened-most = omega (arith, k.opened-most, h); closed-most = omega (arith, k.closed-most, h) }

-- a search for a body that does not end in a chunk goes on behind it
pub body_further : (s : List ℕ) (at : ℕ) (c : Chunk ℕ) (n : Counts) → Covers s at c → Counted n at → Misses c n.angle n.opened n.closed
    → TellsCounts s at n (Some (counts_past c n))
body_further s at c n h k m =
    let b = brackets_most s at (at + 4096) c (omega arith) h.passing in (
      h.inside,
      h.passing.passes n.angle n.opened n.closed m,
      record { angle_most = omega (arith, k.angle_most, b.0); opened-most = omega (arith, k.opened-most, b.1); closed-most = omega (arith, k.closed-most, b.2) },
    )
