-- What is known of a brace that was sought before.
use Rattle.std.specs.Prelude.{ℕ, ◌≡◌, List, drop, Option, None, Some}
use Rattle.std.proofs.Math.Option.{none}
use Rattle.std.proofs.Props.{props}
use Rattle.std.specs.Coded.{Unit-prop}
use Rattle.text_rules.specs.Classes.{brace_close, brace_open}
use Rattle.source_rules.specs.Brackets.{partner}

-- a brace before a place has no partner; no place tells nothing
abbrev pub Open : List ℕ → Option ℕ → Type 0
Open s (Some from) = partner brace_open brace_close 0 from (drop from s) ≡ none
Open s None = Unit {0}

-- it has one proof at most
pub open_prop : (s : List ℕ) (place : Option ℕ) → IsProp (Open s place)
open_prop s (Some from) = hlevel props
open_prop s None = Unit-prop
