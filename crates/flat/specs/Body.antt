-- What a search for a body counts on its way, and what it meets.
use Rattle.std.specs.Prelude.{ℕ, ◌+◌, ◌-◌, ◌≤◌, ◌<◌, ◌≡◌, ◌⊎◌, ◌≢◌, List, drop}
use Rattle.std.proofs.Math.Option.{Option, none, some}
use Rattle.text_rules.specs.Classes.{angle_close, angle_open, brace_open, semicolon, square_close, square_open}
use Rattle.source_rules.specs.Finding.{body_at}
use Rattle.blocks.specs.Blocks.{Lacks, count_from}
use Rattle.flat.specs.declared.Counts.{Counts}
use Rattle.flat.specs.declared.Halt.{Halt}
use Rattle.flat.specs.declared.Reached.{Reached}
use Rattle.flat.specs.declared.Reached.TheVariants.{Brace, Ended, Further}
use Rattle.flat.specs.declared.Tally.{Tally}

-- a byte that a search for a body neither counts nor stops at
abbrev pub Plain : ℕ → Type 0
Plain b = (b ≢ brace_open) × (b ≢ semicolon) × (b ≢ angle_open) × (b ≢ angle_close) × (b ≢ square_open) × (b ≢ square_close)

-- counts that are at most the place, so that they can be counted on
pub record Counted (n : Counts) (at : ℕ) : Type 0 where
  pub angle_most : n.angle ≤ at
  pub opened-most : n.opened ≤ at
  pub closed-most : n.closed ≤ at

-- the brace that a search with these counts at a place finds
abbrev pub body_from : List ℕ → (from : ℕ) → Counts → Option ℕ
body_from s from n = body_at n.angle n.opened n.closed from (drop from s)

-- what a search for a body meets: the brace, a ; that ends it, or counts with which it goes on
abbrev pub Reaches : List ℕ → (from to : ℕ) → Counts → Reached → Type 0
Reaches s from to n (Brace p) = body_from s from n ≡ some p
Reaches s from to n (Ended p) = body_from s from n ≡ none
Reaches s from to n (Further m) = (body_from s from n ≡ body_from s to m) × Counted m to

-- how many brackets of each kind a block has
pub record Tallies (s : List ℕ) (at : ℕ) (t : Tally) : Type 0 where
  pub ups_is : t.ups ≡ count_from angle_open s at 16
  pub downs_is : t.downs ≡ count_from angle_close s at 16
  pub opens-is : t.opens ≡ count_from square_open s at 16
  pub closes-is : t.closes ≡ count_from square_close s at 16

-- so many bytes at a place close fewer square brackets than are open, or open fewer than were closed and never opened
abbrev pub Inside : List ℕ → (at many : ℕ) → Counts → Type 0
Inside s at many n = (count_from square_close s at many < n.opened - n.closed) ⊎ (count_from square_open s at many < n.closed - n.opened)

-- so many bytes at a place that a search passes whole: they close fewer angle brackets than are open; or else they have no < or close no more than are
-- open, and stand inside square brackets or have neither { nor ;
abbrev pub Passable : List ℕ → (at many : ℕ) → Counts → Type 0
Passable s at many n =
    (count_from angle_close s at many < n.angle)
    ⊎ (((count_from angle_open s at many ≡ 0) ⊎ (count_from angle_close s at many ≤ n.angle)) × (Inside s at many n ⊎ (Lacks brace_open s at many × Lacks semicolon s at many)))

-- the counts behind them
abbrev pub counts_behind : List ℕ → (at many : ℕ) → Counts → Counts
counts_behind s at many n =
    record {
      angle = n.angle + count_from angle_open s at many - count_from angle_close s at many;
      opened = n.opened + count_from square_open s at many;
      closed = n.closed + count_from square_close s at many;
    }

-- a search comes to a place, and goes on there with the counts
pub record Halts (s : List ℕ) (from to : ℕ) (n : Counts) (r : Halt) : Type 0 where
  pub further : from ≤ r.at
  pub before : r.at ≤ to
  pub same : body_from s from n ≡ body_from s r.at r.counts
  pub counted : Counted r.counts r.at
