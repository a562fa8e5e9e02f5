-- A tournament of elements by their numbers, where the number of all elements stands for none. With n elements the leaf of the element k is the node n + k,
-- and each inner node i, from 1 to n - 1, holds the winner of the nodes 2 i and 2 i + 1. So the node 1 holds the next element of all, and after it is taken
-- only the matches on its path to the node 1 are played again.
use Rattle.std.specs.Prelude.{ℕ, zero, suc, ◌+◌, ◌-◌, ◌*◌, ◌/◌, ◌≤◌, ◌<◌, ◌≡◌, refl, ◌⊎◌, ◌≢◌, Bool, true, false, List, [], ◌∷◌, ◌++◌, eqb, ltb, length, take, drop, get_or, set}
use Rattle.std.proofs.Common.{ap, subst, sym, ◌∙◌, inl, inr, arith, add-one, length-set, take-append-drop, get_or-set_other, get_or-set_same, eqb-true, ltb-false, ltb-true}
use mathlib.Core.List.Memᴰ
use Rattle.std.proofs.Math.Option.{Option, none, some}
use Rattle.std.proofs.lemmas.Bool.{eqb-false}
use Rattle.text_rules.specs.ByteOrder.{Orders}
use Rattle.text_rules.specs.Bytes.{All, ◌∈◌, if◌then◌otherwise◌}
use Rattle.text_rules.specs.BytesLaws.{All-append, whether}
use Rattle.text_rules.specs.Selection.{Placed, ahead, placed_from}
use Rattle.text_rules.proofs.SelectionLaws.{ahead-asym}
use Rattle.order.specs.Best.{After, Best, back_in, front_in}
use Rattle.order.specs.Chosen.{Chosen, Fit, choice, choice-none, choice-some, fit_decided, fit_fails, fit_first, goes_first, item, other-first}
use Rattle.order.specs.Picks.{ahead_trans, seen_all, seen_next}

-- two numbers are the same or not
pub same_or_not : (j k : ℕ) → (j ≡ k) ⊎ (j ≢ k)
same_or_not j k = elim (whether (eqb j k)) [ inl e ↦ inl (eqb-true j k e) | inr e ↦ inr (eqb-false j k e) ]

-- a node is the left or the right one of the two below its half
halves : (i : ℕ) → (i ≡ 2 * (i / 2)) ⊎ (i ≡ 2 * (i / 2) + 1)
halves i = elim (same_or_not i (2 * (i / 2))) [ inl e ↦ inl e | inr e ↦ inr (omega (arith, e)) ]

-- the leaves of the elements before m hold those that pass the test
abbrev pub Entered : {A : Type 0} (d : A) (xs : List A) (test : A → Bool) → ℕ → List ℕ → Type 0
Entered d xs test m ns = (k : ℕ) → k < m → get_or ns (length xs + k) 0 ≡ (if test (get_or xs k d) then k otherwise length xs)

pub entered_next : {A : Type 0} (d : A) (xs : List A) (test : A → Bool) (k leaf i : ℕ) (ns : List ℕ) → i ≡ length xs + k → i < length ns → leaf ≡ (if test (get_or xs k d) then k otherwise length xs)
    → Entered d xs test k ns → Entered d xs test (k + 1) (set ns i leaf)
entered_next d xs test k leaf i ns e h l b j m =
    elim (same_or_not j k) [
      | inl f ↦
          let here : length xs + j ≡ i = omega arith in
          ap (λ p. get_or (set ns i leaf) p 0) here ∙ get_or-set_same ns i leaf 0 h ∙ l ∙ ap (λ p. if test (get_or xs p d) then p otherwise length xs) (sym f)
      | inr f ↦ get_or-set_other ns i (length xs + j) leaf 0 (λ q. omega (arith, f)) ∙ b j (omega (arith, f))
    ]

pub entered_small : {A : Type 0} (d : A) (xs : List A) (test : A → Bool) (ns : List ℕ) → Entered d xs test (length xs) ns → (j : ℕ) → length xs ≤ j → j < 2 * length xs → get_or ns j 0 ≤ length xs
entered_small d xs test ns h j a b =
    let k = j - length xs in
    let same : length xs + k ≡ j = omega arith in
    let held : get_or ns j 0 ≡ (if test (get_or xs k d) then k otherwise length xs) = subst (λ i. get_or ns i 0 ≡ (if test (get_or xs k d) then k otherwise length xs)) same (h k (omega arith)) in
    elim (whether (test (get_or xs k d))) [
      | inl t ↦ let e : get_or ns j 0 ≡ k = held ∙ rw t in omega arith
      | inr t ↦ let e : get_or ns j 0 ≡ length xs = held ∙ rw t in omega arith
    ]

module _ {A : Type 0} (less : A → A → Bool) (orders : Orders less) (d : A) (xs : List A) where
  -- a is not beaten by b: where b is an element, so is a, and it is the same or goes first
  abbrev pub Unbeaten : ℕ → ℕ → Type 0
  Unbeaten a b = b ≢ length xs → (a ≢ length xs) × ((a ≡ b) ⊎ (goes_first less orders d xs a b ≡ true))

  unbeaten_trans : (a b c : ℕ) → Unbeaten a b → Unbeaten b c → Unbeaten a c
  unbeaten_trans a b c p q h =
      let below = q h in
      let above = p below.0 in (
        above.0,
        elim above.1 [
          | inl e ↦ elim below.1 [
            | inl f ↦ inl (e ∙ f)
            | inr f ↦ inr (subst (λ x. goes_first less orders d xs x c ≡ true) (sym e) f)
          ]
          | inr e ↦ elim below.1 [
            | inl f ↦ inr (subst (λ x. goes_first less orders d xs a x ≡ true) f e)
            | inr f ↦ inr (ahead_trans less orders (item less orders d xs a) (item less orders d xs b) (item less orders d xs c) e f)
          ]
        ],
      )

  -- w is the winner of l and r
  pub record Wins (w l r : ℕ) : Type 0 where
    pub either : (w ≡ l) ⊎ (w ≡ r)
    pub over-left : Unbeaten w l
    pub over_right : Unbeaten w r

  module _ (l r : ℕ) where
    pub no-left : l ≡ length xs → Wins r l r
    no-left e = record { either = inr refl; over-left = λ h. absurd (h e); over_right = λ h. (h, inl refl) }

    pub no_right : r ≡ length xs → Wins l l r
    no_right e = record { either = inl refl; over-left = λ h. (h, inl refl); over_right = λ h. absurd (h e) }

    pub right_first : r ≢ length xs → goes_first less orders d xs r l ≡ true → Wins r l r
    right_first n e = record { either = inr refl; over-left = λ h. (n, inr e); over_right = λ h. (n, inl refl) }

    pub left-first : l ≢ length xs → goes_first less orders d xs r l ≡ false → Wins l l r
    left-first n e = record { either = inl refl; over-left = λ h. (n, inl refl); over_right = λ h. (n, elim (other-first less orders d xs r l e) [ inl q ↦ inl (sym (ap (λ p. p.at) q)) | inr q ↦ inr q ]) }

  -- the node holds the winner of the two below it
  abbrev pub Won : List ℕ → ℕ → Type 0
  Won ns i = Wins (get_or ns i 0) (get_or ns (2 * i) 0) (get_or ns (2 * i + 1) 0)

  won-same : (ns new : List ℕ) (i : ℕ) → get_or new i 0 ≡ get_or ns i 0 → get_or new (2 * i) 0 ≡ get_or ns (2 * i) 0 → get_or new (2 * i + 1) 0 ≡ get_or ns (2 * i + 1) 0 → Won ns i → Won new i
  won-same ns new i e f g w =
      subst (λ x. Wins (get_or new i 0) (get_or new (2 * i) 0) x) (sym g)
      (subst (λ x. Wins (get_or new i 0) x (get_or ns (2 * i + 1) 0)) (sym f) (subst (λ x. Wins x (get_or ns (2 * i) 0) (get_or ns (2 * i + 1) 0)) (sym e) w))

  -- from the node i on, the matches are played, and each node holds an element or none
  pub record PlayedFrom (i : ℕ) (ns : List ℕ) : Type 0 where
    pub room : 2 * length xs ≤ length ns
    pub won : (j : ℕ) → i ≤ j → j < length xs → Won ns j
    pub small : (j : ℕ) → i ≤ j → j < 2 * length xs → get_or ns j 0 ≤ length xs

  -- all of them
  abbrev pub Settled : List ℕ → Type 0
  Settled ns = PlayedFrom 1 ns

  -- all but that of the node i
  pub record PlayedBut (i : ℕ) (ns : List ℕ) : Type 0 where
    pub room : 2 * length xs ≤ length ns
    pub won : (j : ℕ) → j ≢ i → 1 ≤ j → j < length xs → Won ns j
    pub small : (j : ℕ) → 1 ≤ j → j < 2 * length xs → get_or ns j 0 ≤ length xs

  -- the node i is set anew, and is no leaf or wins
  pub record Played (i : ℕ) (ns new : List ℕ) : Type 0 where
    pub long : length new ≡ length ns
    pub kept : (j : ℕ) → j ≢ i → get_or new j 0 ≡ get_or ns j 0
    pub won : i < length xs → Won new i
    pub small : get_or new i 0 ≤ length xs

  pub played_set : (i w : ℕ) (ns : List ℕ) → 1 ≤ i → i < length ns → w ≤ length xs → (i < length xs → Wins w (get_or ns (2 * i) 0) (get_or ns (2 * i + 1) 0)) → Played i ns (set ns i w)
  played_set i w ns a b c h =
      let at : get_or (set ns i w) i 0 ≡ w = get_or-set_same ns i w 0 b in
      record {
        long = length-set ns i w;
        kept = λ j n. get_or-set_other ns i j w 0 n;
        won =
            λ l. subst (λ x. Wins x (get_or (set ns i w) (2 * i) 0) (get_or (set ns i w) (2 * i + 1) 0)) (sym at)
            (subst (λ x. Wins w x (get_or (set ns i w) (2 * i + 1) 0)) (sym (get_or-set_other ns i (2 * i) w 0 (λ e. omega arith)))
            (subst (Wins w (get_or ns (2 * i) 0)) (sym (get_or-set_other ns i (2 * i + 1) w 0 (λ e. omega arith))) (h l)));
        small = subst (λ x. x ≤ length xs) (sym at) c;
      }

  module _ (i : ℕ) (ns new : List ℕ) (p : Played i ns new) where
    others-won : (j : ℕ) → j ≢ i → 2 * j ≢ i → 2 * j + 1 ≢ i → Won ns j → Won new j
    others-won j a b c w = won-same ns new j (p.kept j a) (p.kept (2 * j) b) (p.kept (2 * j + 1) c) w

    others-small : (j : ℕ) → (j ≢ i → get_or ns j 0 ≤ length xs) → get_or new j 0 ≤ length xs
    others-small j h =
        elim (same_or_not j i) [
          | inl e ↦ subst (λ x. get_or new x 0 ≤ length xs) (sym e) p.small
          | inr e ↦ subst (λ x. x ≤ length xs) (sym (p.kept j e)) (h e)
        ]

    -- from the leaves to the node 1
    pub played_down : PlayedFrom (i + 1) ns → PlayedFrom i new
    played_down h =
        record {
          room = omega (arith, p.long, h.room);
          won =
              λ j a c. elim (same_or_not j i) [
                | inl e ↦ subst (Won new) (sym e) (p.won (omega arith))
                | inr e ↦ others-won j e (λ f. omega (arith, e)) (λ f. omega (arith, e)) (h.won j (omega (arith, e)) c)
              ];
          small = λ j a c. others-small j (λ e. h.small j (omega (arith, e)) c);
        }

    -- and along a path
    pub played_up : PlayedBut i ns → PlayedBut (i / 2) new
    played_up h =
        record {
          room = omega (arith, p.long, h.room);
          won =
              λ j n b c. elim (same_or_not j i) [
                | inl e ↦ subst (Won new) (sym e) (p.won (omega arith))
                | inr e ↦ others-won j e (λ f. omega (arith, n)) (λ f. omega (arith, n)) (h.won j e b c)
              ];
          small = λ j b c. others-small j (λ e. h.small j b c);
        }

  pub played_all : (i : ℕ) (ns : List ℕ) → i ≤ 1 → PlayedFrom i ns → Settled ns
  played_all i ns h p = record { room = p.room; won = λ j a c. p.won j (omega arith) c; small = λ j a c. p.small j (omega arith) c }

  pub path-whole : (i : ℕ) (ns : List ℕ) → Settled ns → PlayedBut i ns
  path-whole i ns p = record { room = p.room; won = λ j n b c. p.won j b c; small = λ j b c. p.small j b c }

  pub path-end : (i : ℕ) (ns : List ℕ) → i ≡ 0 → PlayedBut i ns → Settled ns
  path-end i ns e p = record { room = p.room; won = λ j a c. p.won j (λ f. omega arith) a c; small = λ j a c. p.small j a c }

  each_seen : (P : Placed A → Type 0) → ((k : ℕ) → k < length xs → P (item less orders d xs k)) → (k : ℕ) → k ≤ length xs → All P (take k (placed_from 0 xs))
  each_seen P h zero l = tt
  each_seen P h (suc k) l =
      let e : take (suc k) (placed_from 0 xs) ≡ take k (placed_from 0 xs) ++ item less orders d xs k ∷ [] = subst (λ i. take i (placed_from 0 xs) ≡ take k (placed_from 0 xs) ++ item less orders d xs k ∷ []) (add-one k) (seen_next d xs k (omega arith)) in
      subst (All P) (sym e) (All-append P (take k (placed_from 0 xs)) (item less orders d xs k ∷ []) (each_seen P h k (omega arith)) (h k (omega arith), tt))

  each_placed : (P : Placed A → Type 0) → ((k : ℕ) → k < length xs → P (item less orders d xs k)) → All P (placed_from 0 xs)
  each_placed P h = subst (All P) (seen_all d xs (length xs) (omega arith)) (each_seen P h (length xs) (omega arith))

  there : (k : ℕ) → k < length xs → item less orders d xs k ∈ placed_from 0 xs
  there k h =
      subst (λ ps. item less orders d xs k ∈ ps) (take-append-drop (k + 1) (placed_from 0 xs))
      (front_in (take (k + 1) (placed_from 0 xs)) (drop (k + 1) (placed_from 0 xs))
      (subst (λ ps. item less orders d xs k ∈ ps) (sym (seen_next d xs k h)) (back_in (take k (placed_from 0 xs)) (item less orders d xs k ∷ []) (Memᴰ.head refl))))

  module _ (test : A → Bool) where
    -- the leaf of each element holds it where it passes the test and stands behind the last one taken, and else none
    abbrev pub Leaf : ℕ → List ℕ → ℕ → Type 0
    Leaf last ns k =
        ((get_or ns (length xs + k) 0 ≡ k) × Fit less orders d xs test last (item less orders d xs k))
        ⊎ ((get_or ns (length xs + k) 0 ≡ length xs) × (Fit less orders d xs test last (item less orders d xs k) → ⊥))

    abbrev pub Leaves : ℕ → List ℕ → Type 0
    Leaves last ns = (k : ℕ) → k < length xs → Leaf last ns k

    -- with none taken yet
    pub entered_all : (last : ℕ) (ns : List ℕ) → last ≡ length xs → Entered d xs test (length xs) ns → Leaves last ns
    entered_all last ns e h k l =
        elim (whether (test (get_or xs k d))) [
          | inl t ↦ inl (h k l ∙ rw t, fit_first less orders d xs test last k t e)
          | inr t ↦ inr (h k l ∙ rw t, fit_fails less orders d xs test last k t)
        ]

    pub leaves-same : (last : ℕ) (ns new : List ℕ) → ((j : ℕ) → length xs ≤ j → get_or new j 0 ≡ get_or ns j 0) → Leaves last ns → Leaves last new
    leaves-same last ns new e h k l =
        let same = e (length xs + k) (omega arith) in
        elim (h k l) [
          | inl a ↦ inl (same ∙ a.0, a.1)
          | inr a ↦ inr (same ∙ a.0, a.1)
        ]

    module _ (last : ℕ) (ns : List ℕ) (s : Settled ns) (h : Leaves last ns) (some-there : 1 ≤ length xs) where
      -- the element that the node 1 holds
      abbrev pub root : ℕ
      root = get_or ns 1 0

      -- it is not beaten by what any node holds
      over_node : (most i : ℕ) → i ≤ most → 1 ≤ i → i < 2 * length xs → Unbeaten root (get_or ns i 0)
      over_node zero i l a b = absurd (omega arith)
      over_node (suc most) i l a b =
          elim (same_or_not i 1) [
            | inl e ↦ subst (λ j. Unbeaten root (get_or ns j 0)) (sym e) (λ n. (n, inl refl))
            | inr e ↦
                let above = over_node most (i / 2) (omega arith) (omega (arith, e)) (omega arith) in
                let match = s.won (i / 2) (omega (arith, e)) (omega arith) in
                elim (halves i) [
                  | inl f ↦ subst (λ j. Unbeaten root (get_or ns j 0)) (sym f) (unbeaten_trans root (get_or ns (i / 2) 0) (get_or ns (2 * (i / 2)) 0) above match.over-left)
                  | inr f ↦ subst (λ j. Unbeaten root (get_or ns j 0)) (sym f) (unbeaten_trans root (get_or ns (i / 2) 0) (get_or ns (2 * (i / 2) + 1) 0) above match.over_right)
                ]
          ]

      -- a leaf that holds the number
      record Source (w : ℕ) : Type 0 where
        number : ℕ
        inside : number < length xs
        holds : get_or ns (length xs + number) 0 ≡ w

      source : (most i : ℕ) → 2 * length xs ≤ i + most → 1 ≤ i → i < 2 * length xs → Source (get_or ns i 0)
      source zero i l a b = absurd (omega arith)
      source (suc most) i l a b =
          elim (whether (ltb i (length xs))) [
            | inl e ↦
                let m : i < length xs = ltb-true i (length xs) e in
                elim (s.won i a m).either [
                  | inl f ↦ subst Source (sym f) (source most (2 * i) (omega arith) (omega arith) (omega arith))
                  | inr f ↦ subst Source (sym f) (source most (2 * i + 1) (omega arith) (omega arith) (omega arith))
                ]
            | inr e ↦
                let m : length xs ≤ i = ltb-false i (length xs) e in
                let same : length xs + (i - length xs) ≡ i = omega arith in
                record { number = i - length xs; inside = omega arith; holds = ap (λ j. get_or ns j 0) same }
          ]

      root-fits : root ≢ length xs → (root < length xs) × Fit less orders d xs test last (item less orders d xs root)
      root-fits n =
          let o = source (2 * length xs) 1 (omega arith) (omega arith) (omega arith) in
          elim (h o.number o.inside) [
            | inl a ↦
                let e : root ≡ o.number = sym o.holds ∙ a.0 in
                subst (λ k. (k < length xs) × Fit less orders d xs test last (item less orders d xs k)) (sym e) (o.inside, a.1)
            | inr a ↦ absurd (n (sym o.holds ∙ a.0))
          ]

      -- whoever fits is not before it
      root_over : (k : ℕ) → k < length xs → Fit less orders d xs test last (item less orders d xs k) → Unbeaten root k
      root_over k l f =
          elim (h k l) [
            | inl a ↦ subst (Unbeaten root) a.0 (over_node (length xs + k) (length xs + k) (omega arith) (omega arith) (omega arith))
            | inr a ↦ absurd (a.1 f)
          ]

      -- it is the next one of all
      pub root-chosen : Chosen less orders d xs test last (placed_from 0 xs) root
      root-chosen =
          elim (same_or_not root (length xs)) [
            | inl e ↦
                subst (Best (ahead less orders) (Fit less orders d xs test last) (placed_from 0 xs)) (sym (choice-none less orders d xs root e))
                (each_placed _ (λ k l f. (root_over k l f (λ q. omega arith)).0 e))
            | inr e ↦
                let fits = root-fits e in
                subst (Best (ahead less orders) (Fit less orders d xs test last) (placed_from 0 xs)) (sym (choice-some less orders d xs root e))
                (there root fits.0, fits.1, each_placed _ (λ k l f. elim (root_over k l f (λ q. omega arith)).1 [ inl q ↦ inl (ap (item less orders d xs) (sym q)) | inr q ↦ inr q ]))
          ]

      -- with its leaf emptied, the leaves hold those behind it
      module _ (n : root ≢ length xs) (leaf none_is : ℕ) (leaf-is : leaf ≡ length xs + root) (e : none_is ≡ length xs) (new : List ℕ)
          (same : (j : ℕ) → length xs ≤ j → get_or new j 0 ≡ get_or (set ns leaf none_is) j 0) where
        emptied : get_or new (length xs + root) 0 ≡ length xs
        emptied =
            let inside = s.room in
            let l = (root-fits n).0 in
            same (length xs + root) (omega arith) ∙ ap (λ j. get_or (set ns leaf none_is) j 0) (sym leaf-is) ∙ get_or-set_same ns leaf none_is 0 (omega arith) ∙ e

        others : (k : ℕ) → k ≢ root → get_or new (length xs + k) 0 ≡ get_or ns (length xs + k) 0
        others k d' = same (length xs + k) (omega arith) ∙ get_or-set_other ns leaf (length xs + k) none_is 0 (λ q. omega (arith, d'))

        behind : (k : ℕ) → Fit less orders d xs test root (item less orders d xs k) → goes_first less orders d xs root k ≡ true
        behind k f = subst (λ r. After (ahead less orders) r (item less orders d xs k)) (choice-some less orders d xs root n) f.1

        further : (r : Option (Placed A)) (p q : Placed A) → After (ahead less orders) r p → ahead less orders p q ≡ true → After (ahead less orders) r q
        further none p q a b = tt
        further (some l) p q a b = ahead_trans less orders l p q a b

        pub root-taken : Leaves root new
        root-taken k l =
            elim (same_or_not k root) [
              | inl e ↦ inr (ap (λ j. get_or new (length xs + j) 0) e ∙ emptied, λ f. let a = subst (λ j. goes_first less orders d xs root j ≡ true) e (behind k f) in ahead-asym less orders _ _ a a)
              | inr e ↦ elim (h k l) [
                | inl a ↦ inl (
                  others k e ∙ a.0,
                  elim (root_over k l a.1 (λ q. omega arith)).1 [
                    | inl q ↦ absurd (e (sym q))
                    | inr q ↦ (fit_decided less orders d xs test root k true a.1.0 n (sym q)).yes refl
                  ],
                )
                | inr a ↦ inr (others k e ∙ a.0, λ f. a.1 (f.0, further (choice less orders d xs last) (item less orders d xs root) (item less orders d xs k) (root-fits n).1.1 (behind k f)))
              ]
            ]
