-- Searching in a text: runs of bytes of a class, the first place of a byte, parts from one place up to another.
-- A search that tells a place takes the place of its list's head, `at`, so that places count from the start of the text.
-- Past the end of a list `get_or` reads 0, a byte that is of no class and that no rule looks for.
use Rattle.std.specs.Prelude.{ℕ, suc, ◌-◌, Bool, true, false, not, ◌&&◌, ◌||◌, List, [], ◌∷◌, eqb, get_or, take, drop}
use Rattle.std.proofs.Math.Option.{Option, none, some}
use Rattle.text_rules.specs.Bytes.{if◌then◌otherwise◌}

-- how many bytes at the head pass a test
unfoldable pub run : (ℕ → Bool) → List ℕ → ℕ
run f [] = 0
run f (b ∷ r) = elim (f b) [ true ↦ suc (run f r) | false ↦ 0 ]

-- the number of bytes before the first x; all of them where there is none
abbrev pub bytes_before : ℕ → List ℕ → ℕ
bytes_before x s = run (λ (b : ℕ). not (eqb b x)) s

-- the two bytes at the head are x and y
unfoldable pub opens : ℕ → ℕ → List ℕ → Bool
opens x y s = eqb (get_or s 0 0) x && eqb (get_or s 1 0) y

-- the text begins with the given bytes
unfoldable pub starts_with : List ℕ → List ℕ → Bool
starts_with [] s = true
starts_with (x ∷ xs) [] = false
starts_with (x ∷ xs) (b ∷ s) = eqb b x && starts_with xs s

-- the last byte is x
unfoldable pub ends_in : ℕ → List ℕ → Bool
ends_in x [] = false
ends_in x (b ∷ []) = eqb b x
ends_in x (b ∷ c ∷ s) = ends_in x (c ∷ s)

-- the text has the byte x
unfoldable pub has : ℕ → List ℕ → Bool
has x [] = false
has x (b ∷ s) = eqb b x || has x s

-- the bytes from one place up to another, that one not included
abbrev pub part : ℕ → ℕ → List ℕ → List ℕ
part from to s = take (to - from) (drop from s)

-- how many bytes are x, behind the byte b: n before it
unfoldable pub count_after : (x b n : ℕ) → ℕ
count_after x b n = if eqb b x then suc n otherwise n

-- the place of the first x
unfoldable pub find : (x at : ℕ) → List ℕ → Option ℕ
find x at [] = none
find x at (b ∷ s) = if eqb b x then some at otherwise find x (suc at) s

infixr 10 ◌and_then◌
-- what is done with a place, if there is one
abbrev pub ◌and_then◌ : {A : Type 0} → Option ℕ → (ℕ → Option A) → Option A
none and_then k = none
(some n) and_then k = k n
