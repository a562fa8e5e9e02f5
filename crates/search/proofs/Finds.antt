-- What the library's `position` answers, in the words of the definitions.
use Prim.Native.Nat.{ℕ, suc, ◌+◌, ◌-◌, ◌<◌, ◌≤◌, min}
use Rattle.std.specs.Prelude.{◌≡◌, ◌≢◌, cond, List, [], ◌∷◌, length, drop, take, nat_eq, nat_lt, not, Option, None, Some, slice_index}
use Rattle.std.specs.List.{position, prefix_len, starts_with as begins_with}
use Rattle.std.proofs.Common.{refl, sym, ap, ◌∙◌, arith, inl, inr, drop_of_length-le, ltb-true, ltb-false, lt-ltb, le-ltb}
use Rattle.std.proofs.Math.ListN.{get_or-eq_default}
use Rattle.std.proofs.Math.Option.{some}
use Rattle.text_rules.specs.BytesLaws.{whether}
use Rattle.text_rules.specs.Search.{find, starts_with}
use Rattle.text_rules.proofs.ScanLaws.{rest_part}
use Rattle.seek.proofs.Library.{begins}
use Rattle.search.specs.Place.{Absent, place_of}

abbrev pub further_on : ℕ → Option ℕ → Option ℕ
further_on at None = None
further_on at (Some n) = Some (at + n)

one_further : (at n length : ℕ) → place_of (further_on (suc at) (cond (nat_lt n length) (Some n) None)) ≡ place_of (further_on at (cond (nat_lt (1 + n) (suc length)) (Some (1 + n)) None))
one_further at n length =
    elim (whether (nat_lt n length)) [
      | inl e ↦ rw (e, lt-ltb (1 + n) (suc length) (omega (arith, ltb-true n length e))) (ap some (omega arith))
      | inr e ↦ rw (e, le-ltb (1 + n) (suc length) (omega (arith, ltb-false n length e)))
    ]

first_here : (at length : ℕ) → 0 < length → some at ≡ place_of (further_on at (cond (nat_lt 0 length) (Some 0) None))
first_here at length h = let i : at ≡ at + 0 = omega arith in rw (lt-ltb 0 length h) (ap some i)

-- the first x of a list that stands at a place
find_position : (x at : ℕ) (s : List ℕ) → find x at s ≡ place_of (further_on at (position (λ b. nat_eq b x) s))
unfolding find
find_position x at [] = refl
find_position x at (b ∷ s) =
    elim (whether (nat_eq b x)) [
      | inl e ↦ rw e (first_here at (suc (length s)) (omega arith))
      | inr e ↦ rw e (find_position x (suc at) s ∙ one_further at (prefix_len (λ y. not (nat_eq y x)) s) (length s))
    ]

-- the first x from a place on
pub found_at : (x from n : ℕ) (s : List ℕ) → Some n ≡ position (λ b. nat_eq b x) (take (length s - from) (drop from s)) → place_of (Some (from + n)) ≡ find x from (drop from s)
found_at x from n s e =
    sym (find_position x from (drop from s) ∙ ap (λ r. place_of (further_on from r)) (sym (e ∙ ap (position (λ b. nat_eq b x)) (rest_part s from))))

pub not_found : (x from : ℕ) (s : List ℕ) → None ≡ position (λ b. nat_eq b x) (take (length s - from) (drop from s)) → place_of None ≡ find x from (drop from s)
not_found x from s e =
    sym (find_position x from (drop from s) ∙ ap (λ r. place_of (further_on from r)) (sym (e ∙ ap (position (λ b. nat_eq b x)) (rest_part s from))))

-- the word at a place, or at the end where the place is behind it
pub begins_from : (from at : ℕ) (word s : List ℕ) → at ≡ min from (length s) → begins_with nat_eq (take (length s - at) (drop at s)) word ≡ starts_with word (drop from s)
begins_from from at word s e =
    ap (λ t. begins_with nat_eq t word) (rest_part s at) ∙ begins word (drop at s) ∙ ap (starts_with word) here
  where
    here : drop at s ≡ drop from s
    here =
        elim (whether (nat_lt from (length s))) [
          | inl h ↦ let i : at ≡ from = omega (arith, ltb-true from (length s) h) in ap (λ k. drop k s) i
          | inr h ↦
              let i : length s ≤ from = ltb-false from (length s) h in
              let j : length s ≤ at = omega arith in
              drop_of_length-le s j ∙ sym (drop_of_length-le s i)
        ]

-- no byte stands behind the end
pub none_behind : (s : List ℕ) (x at : ℕ) → x ≢ 0 → ((k : ℕ) → at ≤ k → k < length s → slice_index s k ≢ x) → Absent x s at
unfolding Absent
none_behind s x at z h k i e =
    elim (whether (nat_lt k (length s))) [
      | inl l ↦ h k i (ltb-true k (length s) l) e
      | inr l ↦ z (sym e ∙ get_or-eq_default s 0 (ltb-false k (length s) l))
    ]
