-- The end of a list of parameters and the brace of the body behind it, and what a note tells of them.
use Rattle.std.specs.Prelude.{ℕ, ◌+◌, ◌≡◌, List, drop}
use Rattle.std.proofs.Math.Option.{Option, none, some}
use Rattle.text_rules.specs.Classes.{round_close, round_open}
use Rattle.source_rules.specs.Brackets.{partner}
use Rattle.source_rules.specs.Finding.{body_at}
use Rattle.windows.specs.declared.Note.{Note}
use Rattle.windows.specs.declared.Note.TheVariants.{Broken, Closed, Nothing, Whole}

-- the partner of a round bracket, sought from a place on with so many open inside it
abbrev pub sought_from : List ℕ → (at depth : ℕ) → Option ℕ
sought_from s at depth = partner round_open round_close depth at (drop at s)

-- the brace of the body behind a list that ends at a place
abbrev pub body_behind : List ℕ → (closed : ℕ) → Option ℕ
body_behind s closed = body_at 0 0 0 (closed + 1) (drop (closed + 1) s)

-- a list that is never closed, or one without a body behind it
pub data NoBody (s : List ℕ) (from : ℕ) : Type 0 where
  no_end : sought_from s from 0 ≡ none → NoBody s from
  no-brace : (closed : ℕ) → sought_from s from 0 ≡ some closed → body_behind s closed ≡ none → NoBody s from

-- what is noted of a bracket tells
abbrev pub NoteTells : List ℕ → (at : ℕ) → Note → Type 0
NoteTells s at Nothing = Unit {0}
NoteTells s at Broken = NoBody s at
NoteTells s at (Closed partner) = sought_from s at 0 ≡ some partner
NoteTells s at (Whole partner brace) = (sought_from s at 0 ≡ some partner) × (body_behind s partner ≡ some brace)
