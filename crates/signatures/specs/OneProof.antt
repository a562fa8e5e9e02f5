-- What is noted of a text, and what is kept of searches in it, has one proof at most.
use Rattle.std.specs.Prelude.{ℕ, ◌≡◌, List, Option as Possible, Some, None}
use Rattle.std.proofs.Common.{ap, ap₂, subst, sym, ◌∙◌, arith}
use Rattle.std.proofs.Math.Option.{Option, none, some}
use Rattle.std.proofs.Props.{props}
use Rattle.std.specs.Coded.{Unit-prop}
use Rattle.text_rules.specs.BytesLaws.{some_same}
use Rattle.windows.specs.declared.Note.{Note}
use Rattle.windows.specs.declared.Note.TheVariants.{Broken, Closed, Nothing, Whole}
use Rattle.windows.specs.declared.Window.{Window}
use Rattle.windows.specs.Window.{Noted}
use Rattle.memo.specs.declared.Kept.{Kept}
use Rattle.memo.specs.declared.Search.{Search}
use Rattle.memo.specs.Memo.{Entry, Known, Recalls}
use Rattle.parts.specs.Told.{NoBody, NoteTells, body_behind, no-brace, no_end, sought_from}

option_prop : (o p : Option ℕ) → IsProp (o ≡ p)
option_prop o p = hlevel props

-- a list has an end or none
ended : (o : Option ℕ) (closed : ℕ) → o ≡ none → o ≡ some closed → ⊥
ended o closed e f = let z : ◌≡◌ {A = ℕ} 0 1 = cc in absurd (omega arith)

body_prop : (s : List ℕ) (from : ℕ) → IsProp (NoBody s from)
body_prop s from (no_end e) (no_end f) = ap no_end (option_prop _ _ e f)
body_prop s from (no_end e) (no-brace c p n) = absurd (ended _ c e p)
body_prop s from (no-brace c p n) (no_end e) = absurd (ended _ c e p)
body_prop s from (no-brace c p n) (no-brace d q m) =
    subst (λ k. (q : sought_from s from 0 ≡ some k) (m : body_behind s k ≡ none) → no-brace c p n ≡ no-brace k q m) (some_same c d (sym p ∙ q))
    (λ q m. ap₂ (no-brace c) (option_prop _ _ p q) (option_prop _ _ n m)) q m

note_prop : (s : List ℕ) (at : ℕ) (n : Note) → IsProp (NoteTells s at n)
note_prop s at Nothing = Unit-prop
note_prop s at Broken = body_prop s at
note_prop s at (Closed partner) = hlevel props
note_prop s at (Whole partner brace) = hlevel props

pub noted_prop : (s : List ℕ) (w : Window) → IsProp (Noted (NoteTells s) w)
noted_prop s w = hlevel (props, note_prop)

known_prop : (x : Possible ℕ) (found : Option ℕ) → IsProp (Known (Some x) found)
known_prop None found = option_prop found none
known_prop (Some place) found = option_prop found (some place)

entry_prop : (s : List ℕ) (at : ℕ) (x : Possible Search) → IsProp (Entry s at x)
entry_prop s at None = Unit-prop
entry_prop s at (Some x) = hlevel (props, known_prop)

pub recalls_prop : (s : List ℕ) (f : Kept) → IsProp (Recalls s f)
recalls_prop s f = hlevel (props, entry_prop)
