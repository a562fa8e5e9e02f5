-- Where the searches end, and what a run or a part has.
use Rattle.std.specs.Prelude.{ℕ, zero, suc, ◌+◌, ◌-◌, ◌≤◌, ◌<◌, ◌≡◌, refl, Bool, true, List, [], ◌∷◌, eqb, length, take, drop, get_or}
use Rattle.std.proofs.Common.{ap, inl, inr, arith, length-take, length-drop, eqb-true}
use Rattle.std.proofs.Math.Option.{Option, none, some}
use Rattle.text_rules.specs.Bytes.{All}
use Rattle.text_rules.specs.BytesLaws.{and_right, whether}
use Rattle.text_rules.specs.Search.{◌and_then◌, find, opens, part, run}

-- a place from `at` on, inside a list that begins there
abbrev pub PlaceIn : ℕ → ℕ → List ℕ → Type 0
PlaceIn at m s = (at ≤ m) × (m < at + length s)

pub and_then-some : {A : Type 0} (o : Option ℕ) (k : ℕ → Option A) (a : A) → (o and_then k) ≡ some a → (n : ℕ) × (o ≡ some n) × (k n ≡ some a)
and_then-some none k a e = let z : ◌≡◌ {A = ℕ} 0 1 = cc in absurd (omega arith)
and_then-some (some n) k a e = (n, refl, e)

pub find-inside : (x at : ℕ) (s : List ℕ) (m : ℕ) → find x at s ≡ some m → PlaceIn at m s
unfolding find
find-inside x at [] m e = let z : ◌≡◌ {A = ℕ} 0 1 = cc in absurd (omega arith)
find-inside x at (b ∷ s) m e =
    elim (whether (eqb b x)) [
      | inl t ↦ let h : some at ≡ some m = rw t at e in let q : at ≡ m = cc in omega arith
      | inr t ↦ omega (arith, find-inside x (suc at) s m (rw t at e))
    ]

-- the bytes of a run are of its class
pub run-all : (f : ℕ → Bool) (s : List ℕ) → All (λ b. f b ≡ true) (take (run f s) s)
unfolding run
run-all f [] = tt
run-all f (b ∷ s) = elim (whether (f b)) [ inl t ↦ rw (t, run) (t, run-all f s) | inr t ↦ rw (t, run) tt ]

pub run_length : (f : ℕ → Bool) (s : List ℕ) → run f s ≤ length s
unfolding run
run_length f [] = omega arith
run_length f (b ∷ s) = elim (whether (f b)) [ inl t ↦ rw (t, run) (omega (arith, run_length f s)) | inr t ↦ rw (t, run) (omega arith) ]

pub part_length : (from to : ℕ) (s : List ℕ) → from ≤ to → to ≤ length s → length (part from to s) ≡ to - from
part_length from to s h k = simp (length-take, length-drop) (omega arith)

pub part-short : (from to : ℕ) (s : List ℕ) → length (part from to s) ≤ length s
part-short from to s = simp (length-take, length-drop) (omega arith)

-- the list behind a place
pub drop_tail : {A : Type 0} (at : ℕ) (text : List A) (b : A) (s : List A) → drop at text ≡ b ∷ s → drop (suc at) text ≡ s
drop_tail zero text b s e = ap (drop 1) e
drop_tail (suc at) [] b s e = ap (drop 1) e
drop_tail (suc at) (c ∷ text) b s e = drop_tail at text b s e

-- a byte that is not 0 stands in the text
pub in_text : (s : List ℕ) (i : ℕ) → 1 ≤ get_or s i 0 → i < length s
in_text [] i e = absurd (omega arith)
in_text (x ∷ s) zero e = omega arith
in_text (x ∷ s) (suc i) e = omega (arith, in_text s i e)

pub opens-inside : (x y : ℕ) (s : List ℕ) → opens x (suc y) s ≡ true → 2 ≤ length s
unfolding opens
opens-inside x y s e = in_text s 1 (omega (arith, eqb-true (get_or s 1 0) (suc y) (and_right (eqb (get_or s 0 0) x) _ e)))

pub run-some : (f : ℕ → Bool) (b : ℕ) (s : List ℕ) → f b ≡ true → 1 ≤ run f (b ∷ s)
unfolding run
run-some f b s e = rw (e, run) (omega arith)
