-- Two marked sentences of the rules, for every text: `fn` with an opening parenthesis straight after it is no function; and where a
-- parameter count would fall below 0. There the Rust panics or wraps; elsewhere it keeps the count at zero or above.
use Rattle.std.specs.Prelude.{ℕ, ◌+◌, ◌≤◌, ◌≡◌, refl, ◌↔◌, Bool, true, false, List, [], ◌∷◌, ◌++◌}
use Rattle.std.proofs.Common.{arith}
use Rattle.std.proofs.Math.Option.{none}
use Rattle.text_rules.specs.Bytes.{ascii}
use Rattle.text_rules.specs.BytesLaws.{true_false}
use Rattle.text_rules.specs.Classes.{class_of, comma}
use Rattle.text_rules.specs.Search.{ends_in, run}
use Rattle.text_rules.specs.WhiteSpace.{trimmed}
use Rattle.source_rules.specs.Finding.{function_at, name_end, name_start}
use Rattle.source_rules.proofs.MeasuresLaws.{parts_from_lem}
use Rattle.source_rules.specs.Parameters.{counted, one, parts_from, takes_self}

-- whatever follows
pub fn_type : (s : List ℕ) → function_at (ascii "fn(" ++ s) ≡ none
unfolding function_at name_start name_end run class_of
fn_type s = refl

-- what is taken off the parts of a trimmed list: 1 for a trailing comma, 1 for self
abbrev pub taken_off : List ℕ → ℕ
taken_off s = one (ends_in comma s) + one (takes_self s)

-- the Rust keeps the count of a trimmed list at zero or above
abbrev pub KeptAbove : List ℕ → Type 0
KeptAbove [] = Unit {0}
KeptAbove (b ∷ s) = taken_off (b ∷ s) ≤ parts_from 1 0 0 (b ∷ s)

-- the Rust keeps the parameter count of the text between the brackets at zero or above
abbrev pub RustCounts : List ℕ → Type 0
RustCounts s = KeptAbove (trimmed s)

-- where it does not: no comma stands at depth 0, the text ends in one all the same, and self is taken, as in `self>,`
pub record FallsBelow (s : List ℕ) : Type 0 where
  pub one-part : parts_from 1 0 0 s ≡ 1
  pub trailing : ends_in comma s ≡ true
  pub self-taken : takes_self s ≡ true

falls : (s : List ℕ) (t u : Bool) → ends_in comma s ≡ t → takes_self s ≡ u → (one t + one u ≤ parts_from 1 0 0 s → ⊥) → FallsBelow s
falls s true true e h k = record { one-part = let least = (parts_from_lem 1 0 0 s).0 in omega (arith, k); trailing = e; self-taken = h }
falls s true false e h k = absurd (k (omega (arith, (parts_from_lem 1 0 0 s).0)))
falls s false true e h k = absurd (k (omega (arith, (parts_from_lem 1 0 0 s).0)))
falls s false false e h k = absurd (k (omega arith))

pub falls_below : (s : List ℕ) → (KeptAbove s → ⊥) ↔ FallsBelow s
unfolding ends_in
falls_below [] = (λ k. absurd (k tt), λ f. absurd (true_false false f.trailing refl))
falls_below (b ∷ s) = (
  λ k. falls (b ∷ s) (ends_in comma (b ∷ s)) (takes_self (b ∷ s)) refl refl k,
  λ f k. let p = f.one-part in let two : taken_off (b ∷ s) ≡ 2 = rw (f.trailing, f.self-taken) in omega arith,
)

-- where it does, the count is the Rust's: the parts less what is taken off
pub kept-count : (b : ℕ) (s : List ℕ) → KeptAbove (b ∷ s) → counted (b ∷ s) + taken_off (b ∷ s) ≡ parts_from 1 0 0 (b ∷ s)
kept-count b s k = omega arith
