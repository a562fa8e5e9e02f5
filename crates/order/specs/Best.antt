-- What a loop that looks for the next element in an order has found: the best of those seen. Of all elements that stand behind the last one taken,
-- the best is the next one of the list that rises.
use Rattle.std.specs.Prelude.{◌≡◌, refl, ◌⊎◌, Bool, true, List, [], ◌∷◌, ◌++◌}
use Rattle.std.proofs.Common.{ap, sym, inl, inr}
use mathlib.Core.List.Memᴰ
use Rattle.std.proofs.Math.Option.{Option, none, some}
use Rattle.text_rules.specs.Bytes.{All, ◌∈◌}
use Rattle.text_rules.specs.BytesLaws.{All-append, All-at, All-map}
use Rattle.text_rules.specs.Selection.{Rising}

-- the first and the last element, if there is one
module _ {B : Type 0} where
  abbrev pub head_of : List B → Option B
  head_of [] = none
  head_of (x ∷ xs) = some x

  abbrev pub last_of : List B → Option B
  last_of [] = none
  last_of (x ∷ []) = some x
  last_of (x ∷ y ∷ ys) = last_of (y ∷ ys)

  pub front_in : (xs ys : List B) {z : B} → z ∈ xs → z ∈ xs ++ ys
  front_in (x ∷ xs) ys (Memᴰ.head q) = Memᴰ.head q
  front_in (x ∷ xs) ys (Memᴰ.tail m) = Memᴰ.tail (front_in xs ys m)
  front_in [] ys m = elim m [ ]

  pub back_in : (xs ys : List B) {z : B} → z ∈ ys → z ∈ xs ++ ys
  back_in [] ys m = m
  back_in (x ∷ xs) ys m = Memᴰ.tail (back_in xs ys m)

module _ {B : Type 0} (ahead : B → B → Bool) where
  -- behind the last one taken; at first none was taken
  abbrev pub After : Option B → B → Type 0
  After none z = Unit {0}
  After (some l) z = ahead l z ≡ true

  -- of those seen that fit, the one that is ahead of all others
  abbrev pub Best : (B → Type 0) → List B → Option B → Type 0
  Best Fit seen none = All (λ z. Fit z → ⊥) seen
  Best Fit seen (some b) = (b ∈ seen) × Fit b × All (λ z. Fit z → (z ≡ b) ⊎ (ahead b z ≡ true)) seen

  -- one element more
  module _ (Fit : B → Type 0) (seen : List B) (z : B) where
    pub best_unfit : (Fit z → ⊥) → (r : Option B) → Best Fit seen r → Best Fit (seen ++ z ∷ []) r
    best_unfit n none h = All-append _ seen (z ∷ []) h (n, tt)
    best_unfit n (some b) h = (front_in seen (z ∷ []) h.0, h.1, All-append _ seen (z ∷ []) h.2 ((λ f. absurd (n f)), tt))

    pub best_first : Fit z → Best Fit seen none → Best Fit (seen ++ z ∷ []) (some z)
    best_first f h = (back_in seen (z ∷ []) (Memᴰ.head refl), f, All-append _ seen (z ∷ []) (All-map _ _ (λ y n g. absurd (n g)) seen h) ((λ g. inl refl), tt))

    pub best_worse : (b : B) → (z ≡ b) ⊎ (ahead b z ≡ true) → Best Fit seen (some b) → Best Fit (seen ++ z ∷ []) (some b)
    best_worse b w h = (front_in seen (z ∷ []) h.0, h.1, All-append _ seen (z ∷ []) h.2 ((λ g. w), tt))

    module _ (trans : (x y w : B) → ahead x y ≡ true → ahead y w ≡ true → ahead x w ≡ true) where
      pub best_better : (b : B) → Fit z → ahead z b ≡ true → Best Fit seen (some b) → Best Fit (seen ++ z ∷ []) (some z)
      best_better b f a h = (back_in seen (z ∷ []) (Memᴰ.head refl), f, All-append _ seen (z ∷ []) (All-map _ _ (λ y k g. inr (through y (k g))) seen h.2) ((λ g. inl refl), tt))
        where
          through : (y : B) → (y ≡ b) ⊎ (ahead b y ≡ true) → ahead z y ≡ true
          through y (inl q) = rw q a
          through y (inr e) = trans z b y a e

  module _ (asym : (x y : B) → ahead x y ≡ true → ahead y x ≡ true → ⊥) where
    -- who is ahead of all that were taken is not behind the last of them
    not_after : (x d : B) (ds : List B) → ahead x d ≡ true → All (λ y. ahead x y ≡ true) ds → After (last_of (d ∷ ds)) x → ⊥
    not_after x d [] h k a = asym x d h a
    not_after x d (e ∷ es) h k a = not_after x e es k.0 k.1 a

    pub first_not : (x : B) (ds : List B) → All (λ y. ahead x y ≡ true) ds → After (last_of (x ∷ ds)) x → ⊥
    first_not x [] k a = asym x x a a
    first_not x (d ∷ ds) k a = not_after x d ds k.0 k.1 a

    front-all : (P : B → Type 0) (xs ys : List B) → All P (xs ++ ys) → All P xs
    front-all P [] ys h = tt
    front-all P (x ∷ xs) ys h = (h.0, front-all P xs ys h.1)

    -- an element behind the last one taken is one of the rest, and the rest is behind it
    in_rest : (done rest : List B) → Rising ahead (done ++ rest) → {z : B} → z ∈ done ++ rest → After (last_of done) z → z ∈ rest
    in_rest [] rest h m a = m
    in_rest (x ∷ []) rest h {z} m a =
        elim (Memᴰ.cases_cons m) [
          | inl q ↦ let c : ahead x x ≡ true = rw q at a in absurd (asym x x c c)
          | inr n ↦ n
        ]
    in_rest (x ∷ y ∷ ys) rest h {z} m a =
        elim (Memᴰ.cases_cons m) [
          | inl q ↦ absurd (first_not x (y ∷ ys) (front-all _ (y ∷ ys) rest h.0) (rw q at a))
          | inr n ↦ in_rest (y ∷ ys) rest h.1 n a
        ]

    pub rest-after : (done rest : List B) → Rising ahead (done ++ rest) → {z : B} → z ∈ rest → After (last_of done) z
    rest-after [] rest h m = tt
    rest-after (x ∷ []) rest h m = All-at _ rest h.0 m
    rest-after (x ∷ y ∷ ys) rest h m = rest-after (y ∷ ys) rest h.1 m

    rest-rises : (done rest : List B) → Rising ahead (done ++ rest) → Rising ahead rest
    rest-rises [] rest h = h
    rest-rises (x ∷ done) rest h = rest-rises done rest h.1

    -- The elements of a rising list are those seen that pass a test. Of those behind the last one taken, the best is the first of the rest.
    module _ (seen : List B) (P : B → Type 0) where
      pub record Exactly (all : List B) : Type 0 where
        pub only : (z : B) → z ∈ all → (z ∈ seen) × P z
        pub each : (z : B) → z ∈ seen → P z → z ∈ all

      pub next-is : (done rest : List B) → Rising ahead (done ++ rest) → Exactly (done ++ rest) → (r : Option B) → Best (λ z. P z × After (last_of done) z) seen r → r ≡ head_of rest
      next-is done [] h x none b = refl
      next-is done [] h x (some b) k = absurd (Memᴰ.not-nil (in_rest done [] h (x.each b k.0 k.1.0) k.1.1))
      next-is done (y ∷ rest) h x none k =
          let m = back_in done (y ∷ rest) (Memᴰ.head refl) in
          let s = x.only y m in
          absurd (All-at _ seen k s.0 (s.1, rest-after done (y ∷ rest) h (Memᴰ.head refl)))
      next-is done (y ∷ rest) h x (some b) k =
          let m = back_in done (y ∷ rest) (Memᴰ.head refl) in
          let s = x.only y m in
          let up = rest-rises done (y ∷ rest) h in
          ap some
          (elim (Memᴰ.cases_cons (in_rest done (y ∷ rest) h (x.each b k.0 k.1.0) k.1.1)) [
            | inl q ↦ q
            | inr n ↦
                elim (All-at _ seen k.2 s.0 (s.1, rest-after done (y ∷ rest) h (Memᴰ.head refl))) [
                  | inl q ↦ sym q
                  | inr e ↦ absurd (asym y b (All-at _ rest up.0 n) e)
                ]
          ])
