-- What the bytes from one place to another do to a search that passes them whole.
use Rattle.std.specs.Prelude.{ℕ, ◌+◌, ◌-◌, ◌≤◌, ◌<◌, ◌≡◌, ◌⊎◌, List, length, drop, Option, Some, None}
use Rattle.std.specs.Option.{ForSome}
use Rattle.text_rules.specs.Classes.{round_close, round_open, square_close, square_open}
use Rattle.source_rules.specs.Brackets.{partner}
use Rattle.source_rules.specs.Finding.{body_at}
use Rattle.blocks.specs.Blocks.{count_from}
use Rattle.flat.specs.Body.{Counted, body_from}
use Rattle.flat.specs.declared.Counts.{Counts}
use Rattle.chunks.specs.declared.Round.{Round}
use Rattle.chunks.specs.declared.Chunk.{Chunk}
use Rattle.chunks.specs.declared.Ends.{Ends}

-- a round bracket with as many open inside it as are closed there is sought on behind them
abbrev pub PassesRound : List ℕ → (from to : ℕ) → Round → Type 0
PassesRound s from to r =
    (depth : ℕ) → r.closed ≤ depth → partner round_open round_close depth from (drop from s) ≡ partner round_open round_close (depth - r.closed + r.opened) to (drop to s)

-- no { or ; there ends a search for a body with these counts: none stands outside the angle brackets that are opened there, or those that do have
-- fewer of the ones before closed than the search has open, or all stand above the level of the search, or all below it
abbrev pub MissesEnds : Option (Ends ℕ) → (angle opened closed : ℕ) → Type 0
MissesEnds None angle opened closed = Unit {0}
MissesEnds (Some e) angle opened closed = (e.ended < angle) ⊎ ((4096 + closed < e.low + opened) ⊎ (e.high + opened < 4096 + closed))

abbrev pub Misses : Chunk ℕ → (angle opened closed : ℕ) → Type 0
Misses c = MissesEnds c.ends

pub record PassesBody (s : List ℕ) (from to : ℕ) (c : Chunk ℕ) : Type 0 where
  pub passes : (angle opened closed : ℕ) → Misses c angle opened closed
      → body_at angle opened closed from (drop from s) ≡ body_at (angle - c.downs + c.ups) (opened + c.opened) (closed + c.closed) to (drop to s)
  pub opened-is : c.opened ≡ count_from square_open s from (to - from)
  pub closed_is : c.closed ≡ count_from square_close s from (to - from)
  pub ups_most : c.ups ≤ to - from

-- the levels at which { and ; stand are numbers of 16 bits
abbrev pub LevelsFit : Option (Ends ℕ) → Type 0
LevelsFit ends = ForSome ends (λ e. (e.low ≤ 65535) × (e.high ≤ 65535))

-- what is told of the chunk at a place
pub record Covers (s : List ℕ) (at : ℕ) (c : Chunk ℕ) : Type 0 where
  pub inside : at + 4096 ≤ length s
  pub passing : PassesBody s at (at + 4096) c
  pub levels : LevelsFit c.ends

-- and the > that close a < from before are at most as many as 16 bits hold
pub record Summary (s : List ℕ) (at : ℕ) (c : Chunk ℕ) : Type 0 where
  pub covers : Covers s at c
  pub downs_most : c.downs ≤ 65535

abbrev pub TellsChunk : List ℕ → (at : ℕ) → Option (Chunk ℕ) → Type 0
TellsChunk s at (Some c) = Summary s at c
TellsChunk s at None = ℕ

-- a round bracket with so many open inside it, and one with more, are sought on behind the chunk
abbrev pub TellsDepth : List ℕ → (at depth : ℕ) → Option ℕ → Type 0
TellsDepth s at depth (Some d) =
    (at + 4096 ≤ length s)
    × (d ≤ at + 4096)
    × ((more : ℕ) → partner round_open round_close (depth + more) at (drop at s) ≡ partner round_open round_close (d + more) (at + 4096) (drop (at + 4096) s))
TellsDepth s at depth None = ℕ

-- a search for a body goes on behind the chunk with other counts
abbrev pub TellsCounts : List ℕ → (at : ℕ) → Counts → Option Counts → Type 0
TellsCounts s at n (Some m) = (at + 4096 ≤ length s) × (body_from s at n ≡ body_from s (at + 4096) m) × Counted m (at + 4096)
TellsCounts s at n None = ℕ
