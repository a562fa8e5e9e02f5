-- Keys of a text by their places, at most 8,192.
use Rattle.std.specs.Prelude.{ℕ, zero, suc, ◌≤◌, ◌<◌, ◌≡◌, refl, true, List, [], ◌∷◌, length, map, take, get_or}
use Rattle.std.proofs.Common.{ap, sym, subst, ◌∙◌, arith}
use Rattle.text_rules.specs.Bytes.{All, before}
use Rattle.text_rules.specs.Search.{part}
use Rattle.text_rules.specs.Selection.{Rising}
use Rattle.sorted_keys.specs.Insert.{insert_at}
use Rattle.sorted_keys.specs.declared.Place.{Place}

abbrev pub no_place : Place
no_place = record { from = 0; to = 0 }

-- a key by its place
abbrev pub bytes_at : List ℕ → Place → List ℕ
bytes_at s p = part p.from p.to s

-- the keys by their places
abbrev pub keys_at : List ℕ → List Place → List (List ℕ)
keys_at s ps = map (bytes_at s) ps

-- a place lies in the text
abbrev pub Lies : List ℕ → Place → Type 0
Lies s p = (p.from ≤ p.to) × (p.to ≤ length s)

-- the keys of a text that are held rise
pub record Held (s : List ℕ) (ps : List Place) : Type 0 where
  pub few : length ps ≤ 8192
  pub inside : All (Lies s) ps
  pub rising : Rising before (keys_at s ps)

-- ---- a list and what is told of its elements

module _ {A B : Type 0} (f : A → B) where
  pub map-length : (xs : List A) → length (map f xs) ≡ length xs
  map-length [] = refl
  map-length (x ∷ xs) = ap suc (map-length xs)

  pub map-get : (xs : List A) (i : ℕ) (d : A) (e : B) → i < length xs → get_or (map f xs) i e ≡ f (get_or xs i d)
  map-get [] i d e h = absurd (omega arith)
  map-get (x ∷ xs) zero d e h = refl
  map-get (x ∷ xs) (suc i) d e h = map-get xs i d e (omega arith)

  map-take : (m : ℕ) (xs : List A) → map f (take m xs) ≡ take m (map f xs)
  map-take zero xs = refl
  map-take (suc m) [] = refl
  map-take (suc m) (x ∷ xs) = ap (λ ys. f x ∷ ys) (map-take m xs)

  map-insert : (at : ℕ) (x : A) (xs : List A) → map f (insert_at at x xs) ≡ insert_at at (f x) (map f xs)
  map-insert zero x xs = refl
  map-insert (suc at) x [] = refl
  map-insert (suc at) x (y ∷ xs) = ap (λ ys. f y ∷ ys) (map-insert at x xs)

module _ {A : Type 0} (P : A → Type 0) where
  pub all-get : (xs : List A) (i : ℕ) (d : A) → i < length xs → All P xs → P (get_or xs i d)
  all-get [] i d h a = absurd (omega arith)
  all-get (x ∷ xs) zero d h a = a.0
  all-get (x ∷ xs) (suc i) d h a = all-get xs i d (omega arith) a.1

  pub all-take : (m : ℕ) (xs : List A) → All P xs → All P (take m xs)
  all-take zero xs a = tt
  all-take (suc m) [] a = tt
  all-take (suc m) (x ∷ xs) a = (a.0, all-take m xs a.1)

  pub all-insert : (at : ℕ) (x : A) (xs : List A) → P x → All P xs → All P (insert_at at x xs)
  all-insert zero x xs p a = (p, a)
  all-insert (suc at) x [] p a = (p, tt)
  all-insert (suc at) x (y ∷ xs) p a = (a.0, all-insert at x xs p a.1)

-- no key
pub held_none : (s : List ℕ) (ps : List Place) → ps ≡ [] → Held s ps
held_none s ps e = subst (Held s) (sym e) (record { few = omega arith; inside = tt; rising = tt })

-- the first of a list that rises
pub take-rising : (m : ℕ) (ks : List (List ℕ)) → Rising before ks → Rising before (take m ks)
take-rising zero ks r = tt
take-rising (suc m) [] r = tt
take-rising (suc m) (k ∷ ks) r = (all-take (λ j. before k j ≡ true) m ks r.0, take-rising m ks r.1)

-- ---- a place put in

pub insert-first : {A : Type 0} (at m : ℕ) (x : A) (xs : List A) → at ≤ m → take (suc m) (insert_at at x xs) ≡ insert_at at x (take m xs)
insert-first zero m x xs h = refl
insert-first (suc at) zero x xs h = absurd (omega arith)
insert-first (suc at) (suc m) x [] h = refl
insert-first (suc at) (suc m) x (y ∷ xs) h = ap (λ ys. y ∷ ys) (insert-first at m x xs (omega arith))

-- the keys, where a place was put in at a number, and the last one dropped where all are taken
pub put-keys : (s : List ℕ) (at : ℕ) (p : Place) (ps : List Place)
    → keys_at s (take 8192 (insert_at at p ps)) ≡ take 8192 (insert_at at (bytes_at s p) (keys_at s ps))
put-keys s at p ps = map-take (bytes_at s) 8192 (insert_at at p ps) ∙ ap (take 8192) (map-insert (bytes_at s) at p ps)

pub put-inside : (s : List ℕ) (at : ℕ) (p : Place) (ps : List Place) → Lies s p → All (Lies s) ps → All (Lies s) (take 8192 (insert_at at p ps))
put-inside s at p ps l a = all-take (Lies s) 8192 (insert_at at p ps) (all-insert (Lies s) at p ps l a)
