-- Keys that never fall, as in a baseline that update wrote.
use Rattle.std.specs.Prelude.{ℕ, ◌+◌, ◌≤◌, ◌≡◌, refl, Bool, false, List, [], ◌∷◌, ◌++◌, map, length, drop}
use Rattle.std.proofs.Common.{ap, sym, ◌∙◌, inl, inr, append_assoc, append-nil}
use Rattle.std.specs.Coded.{Unit-prop, ×_prop}
use Rattle.std.proofs.Math.Bool.{Bool-set}
use Rattle.std.proofs.Math.Option.{Option, none, some}
use Rattle.text_rules.specs.ByteOrder.{before_orders}
use Rattle.text_rules.specs.Bytes.{All, before}
use Rattle.text_rules.specs.BytesLaws.{map-append, true_false, whether}
use Rattle.text_rules.specs.Search.{bytes_before, part}
use Rattle.gate_rules.specs.Baseline.{Entry, entries_of_lines, entry_key, entry_of}
use Rattle.order.specs.Best.{last_of}
use Rattle.baseline.specs.Reads.{key_of_entry, line_at}
use Rattle.baseline.specs.Steps.{entries-end, entries_next, entry_list}

-- no later key stands before an earlier one
abbrev pub Unfalling : List (List ℕ) → Type 0
Unfalling [] = Unit {0}
Unfalling (k ∷ ks) = All (λ j. before j k ≡ false) ks × Unfalling ks

-- that has one proof at most
All-prop : (P : List ℕ → Type 0) → ((k : List ℕ) → IsProp (P k)) → (ks : List (List ℕ)) → IsProp (All P ks)
All-prop P h [] = Unit-prop
All-prop P h (k ∷ ks) = ×_prop (h k) (All-prop P h ks)

pub Unfalling-prop : (ks : List (List ℕ)) → IsProp (Unfalling ks)
Unfalling-prop [] = Unit-prop
Unfalling-prop (k ∷ ks) = ×_prop (All-prop (λ j. before j k ≡ false) (λ j. Bool-set (before j k) false) ks) (Unfalling-prop ks)

-- the keys of a baseline's lines
abbrev pub keys_in : List ℕ → List (List ℕ)
keys_in s = map entry_key (entries_of_lines s)

-- the key of a line, as a list
abbrev pub one_key : Option (List ℕ) → List (List ℕ)
one_key none = []
one_key (some k) = k ∷ []

-- whether the key of a line falls behind the last one before it, where both are there
abbrev pub fallen : Option (List ℕ) → Option (List ℕ) → Bool
fallen last none = false
fallen none (some k) = false
fallen (some l) (some k) = before k l

-- what is not before the last key is not before any
not-before : (r s t : List ℕ) → before s r ≡ false → before t s ≡ false → before t r ≡ false
not-before r s t h k =
    elim (whether (before t r)) [
      | inr e ↦ e
      | inl e ↦ elim (before_orders.splits t s r e) [
        | inl a ↦ absurd (true_false (before t s) a k)
        | inr a ↦ absurd (true_false (before s r) a h)
      ]
    ]

last-most : (ks : List (List ℕ)) (l k : List ℕ) → Unfalling ks → last_of ks ≡ some l → before k l ≡ false → All (λ j. before k j ≡ false) ks
last-most [] l k u e h = tt
last-most (x ∷ []) l k u e h = let q : x ≡ l = cc in (rw q h, tt)
last-most (x ∷ y ∷ ys) l k u e h =
    let rest = last-most (y ∷ ys) l k u.1 e h in
    (not-before x y k u.0.0 rest.0, rest)

one_more : (ks : List (List ℕ)) (k : List ℕ) → Unfalling ks → All (λ j. before k j ≡ false) ks → Unfalling (ks ++ k ∷ [])
one_more [] k u h = (tt, tt)
one_more (x ∷ ks) k u h = (behind ks u.0, one_more ks k u.1 h.1)
  where
    behind : (js : List (List ℕ)) → All (λ j. before j x ≡ false) js → All (λ j. before j x ≡ false) (js ++ k ∷ [])
    behind [] a = (h.0, tt)
    behind (j ∷ js) a = (a.0, behind js a.1)

-- one key more, which does not stand before the last one
pub unfalling_more : (ks : List (List ℕ)) (l k : List ℕ) → Unfalling ks → last_of ks ≡ some l → before k l ≡ false → Unfalling (ks ++ k ∷ [])
unfalling_more ks l k u e h = one_more ks k u (last-most ks l k u e h)

-- the keys in front of a place, and those from there on
pub unfalling_rest : (ks js : List (List ℕ)) → Unfalling (ks ++ js) → Unfalling js
unfalling_rest [] js u = u
unfalling_rest (k ∷ ks) js u = unfalling_rest ks js u.1

pub unfalling_front : (ks : List (List ℕ)) (j : List ℕ) (js : List (List ℕ)) → Unfalling (ks ++ j ∷ js) → All (λ k. before j k ≡ false) ks
unfalling_front [] j js u = tt
unfalling_front (k ∷ ks) j js u = (here ks u.0, unfalling_front ks j js u.1)
  where
    here : (is : List (List ℕ)) → All (λ i. before i k ≡ false) (is ++ j ∷ js) → before j k ≡ false
    here [] a = a.0
    here (i ∷ is) a = here is a.1

-- the keys from a place on: that of its line, and those of the lines behind it
line-key : (o : Option Entry) → map entry_key (entry_list o) ≡ one_key (key_of_entry o)
line-key none = refl
line-key (some e) = refl

pub keys-line : (s : List ℕ) (from end : ℕ) (k : Option (List ℕ)) → end ≡ from + bytes_before 10 (drop from s) → k ≡ key_of_entry (entry_of (line_at s from end))
    → keys_in (drop from s) ≡ one_key k ++ keys_in (drop (end + 1) s)
keys-line s from end k e q =
    let here = entry_of (line_at s from end) in
    let rest = entries_of_lines (drop (end + 1) s) in
    ap (map entry_key) (entries_next s from end e)
    ∙ map-append entry_key (entry_list here) rest
    ∙ ap (λ ks. ks ++ map entry_key rest) (line-key here ∙ ap one_key (sym q))

pub keys-next : (s : List ℕ) (from end to : ℕ) (k : Option (List ℕ)) → end ≡ from + bytes_before 10 (drop from s) → part from to s ≡ line_at s from end
    → k ≡ key_of_entry (entry_of (part from to s)) → keys_in (drop from s) ≡ one_key k ++ keys_in (drop (end + 1) s)
keys-next s from end to k e p q = keys-line s from end k e (q ∙ ap (λ l. key_of_entry (entry_of l)) p)

-- no line is left
pub keys-end : (s : List ℕ) (at : ℕ) → length s ≤ at → keys_in (drop at s) ≡ []
keys-end s at h = ap (map entry_key) (entries-end s at h)

-- the keys up to a place, after a line more
pub cut-next : (s : List ℕ) (from end : ℕ) (seen : List (List ℕ)) (k : Option (List ℕ)) → keys_in s ≡ seen ++ keys_in (drop from s)
    → keys_in (drop from s) ≡ one_key k ++ keys_in (drop (end + 1) s) → keys_in s ≡ (seen ++ one_key k) ++ keys_in (drop (end + 1) s)
cut-next s from end seen k c n = c ∙ ap (λ ks. seen ++ ks) n ∙ sym (append_assoc seen (one_key k) (keys_in (drop (end + 1) s)))

-- and when all lines were read
pub cut-end : (s : List ℕ) (from : ℕ) (seen : List (List ℕ)) → length s ≤ from → keys_in s ≡ seen ++ keys_in (drop from s) → seen ≡ keys_in s
cut-end s from seen h c = sym (c ∙ ap (λ ks. seen ++ ks) (keys-end s from h) ∙ append-nil seen)
