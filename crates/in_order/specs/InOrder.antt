-- Stale keys of a baseline whose keys never fall: they stand there in the order in which they are listed, each of them once or more.
use Rattle.std.specs.Prelude.{ℕ, ◌≤◌, ◌≡◌, ◌⊎◌, true, false, ◌||◌}
use Rattle.std.proofs.Math.Path.{refl, subst}
use Rattle.std.proofs.Common.{ap, sym, ◌∙◌}
use Rattle.std.proofs.Math.Logic.{inl, inr}
use mathlib.Core.List.Memᴰ
use mathlib.Core.List.{List, [], ◌∷◌, ◌++◌, map}
use Rattle.std.proofs.Math.Option.{Option as MathOption, none, some}
use native.Mathlib.Omega.{arith}
use Rattle.text_rules.specs.ByteOrder.{before-asym, before_orders, before-total}
use Rattle.text_rules.specs.Bytes.{All, ◌∈◌, among, before, if◌then◌otherwise◌, same, total}
use Rattle.text_rules.specs.BytesLaws.{All-at, All-map, same_refl, same_true, some_same, total-append, true_false, whether}
use Rattle.text_rules.specs.Selection.{Rising}
use Rattle.gate_rules.specs.Baseline.{Entry, entry_key}
use Rattle.gate_rules.specs.Check.{stale}
use Rattle.gate_rules.specs.Functions.{Fun, key}
use Rattle.gate_rules.proofs.StaleLaws.{stale-each, stale-only, stale-rising}
use Rattle.baseline.specs.Ordered.{Unfalling, fallen, one_key}
use Rattle.key_lines.specs.Keys.{repeats}
use Rattle.in_order.specs.StaleKeys.{behind}

-- what a key adds to the stale keys: itself, unless it is the last one or a function has it
abbrev pub added : (live : List (List ℕ)) → (last : MathOption (List ℕ)) → List ℕ → List (List ℕ)
added live last k = if repeats last k || among k live then [] otherwise k ∷ []

-- the keys that are stale, each once where equal keys stand together
unfoldable pub in_order : (live : List (List ℕ)) → (last : MathOption (List ℕ)) → List (List ℕ) → List (List ℕ)
in_order live last [] = []
in_order live last (k ∷ ks) = added live last k ++ in_order live (some k) ks

-- what a line adds
abbrev pub added_by : (live : List (List ℕ)) → (last : MathOption (List ℕ)) → MathOption (List ℕ) → List (List ℕ)
added_by live last none = []
added_by live last (some k) = added live last k

-- the last key, after a line more
abbrev pub last_after : (last : MathOption (List ℕ)) → MathOption (List ℕ) → MathOption (List ℕ)
last_after last none = last
last_after last (some k) = some k

module _ (live : List (List ℕ)) where
  -- the key of a line, and those of the lines behind it
  pub in_order-line : (last k : MathOption (List ℕ)) (ks : List (List ℕ)) → in_order live last (one_key k ++ ks) ≡ added_by live last k ++ in_order live (last_after last k) ks
  unfolding in_order
  in_order-line last none ks = refl
  in_order-line last (some k) ks = refl

  pub in_order-end : (last : MathOption (List ℕ)) → in_order live last [] ≡ []
  unfolding in_order
  in_order-end last = refl

  -- they are not more than all keys, by any measure
  added-most : (w : List ℕ → ℕ) (last : MathOption (List ℕ)) (k : List ℕ) → total w (added live last k) ≤ w k
  added-most w last k = elim (whether (repeats last k || among k live)) [ inl t ↦ rw t (omega arith) | inr t ↦ rw t (omega arith) ]

  pub in_order-most : (w : List ℕ → ℕ) (last : MathOption (List ℕ)) (ks : List (List ℕ)) → total w (in_order live last ks) ≤ total w ks
  unfolding in_order
  in_order-most w last [] = omega arith
  in_order-most w last (k ∷ ks) = omega (arith, total-append w (added live last k) (in_order live (some k) ks), added-most w last k, in_order-most w (some k) ks)

-- ---- where no key falls, these are the stale keys

-- a key that does not stand before the last one is behind it where it is another
other-behind : (last : MathOption (List ℕ)) (k : List ℕ) → fallen last (some k) ≡ false → repeats last k ≡ false → behind last k ≡ true
other-behind none k h e = refl
other-behind (some l) k h e =
    elim (whether (before l k)) [
      | inl d ↦ d
      | inr d ↦ absurd (true_false (same l k) (ap (same l) (sym (before-total l k d h)) ∙ same_refl l) e)
    ]

-- what is behind a key is behind the last one, where the key does not stand before it
behind-through : (last : MathOption (List ℕ)) (k j : List ℕ) → fallen last (some k) ≡ false → before k j ≡ true → behind last j ≡ true
behind-through none k j h b = refl
behind-through (some l) k j h b = elim (before_orders.splits k l j b) [ inl d ↦ absurd (true_false (before k l) d h) | inr d ↦ d ]

-- none of the keys stands before the last one
abbrev NoneAhead : MathOption (List ℕ) → List (List ℕ) → Type 0
NoneAhead none ks = Unit {0}
NoneAhead (some l) ks = All (λ k. before k l ≡ false) ks

ahead-first : (last : MathOption (List ℕ)) (k : List ℕ) (ks : List (List ℕ)) → NoneAhead last (k ∷ ks) → fallen last (some k) ≡ false
ahead-first none k ks h = refl
ahead-first (some l) k ks h = h.0

repeated : (last : MathOption (List ℕ)) (k : List ℕ) → repeats last k ≡ true → last ≡ some k
repeated none k e = absurd (true_false false e refl)
repeated (some l) k e = ap some (same_true l k e)

module _ (live : List (List ℕ)) where
  -- they rise, from behind the last one on
  rises : (last : MathOption (List ℕ)) (ks : List (List ℕ)) → NoneAhead last ks → Unfalling ks
      → All (λ k. behind last k ≡ true) (in_order live last ks) × Rising before (in_order live last ks)
  unfolding in_order
  rises last [] h u = (tt, tt)
  rises last (k ∷ ks) h u =
      let rest = rises (some k) ks u.0 u.1 in
      let first = ahead-first last k ks h in
      let all = All-map _ _ (λ j b. behind-through last k j first b) (in_order live (some k) ks) rest.0 in
      elim (whether (repeats last k)) [
        | inl t ↦ rw t (all, rest.1)
        | inr t ↦ elim (whether (among k live)) [
          | inl d ↦ rw (t, d) (all, rest.1)
          | inr d ↦ rw (t, d) ((other-behind last k first t, all), (rest.0, rest.1))
        ]
      ]

  -- each is one of the keys, and no function has it
  only : (last : MathOption (List ℕ)) (ks : List (List ℕ)) → All (λ k. (k ∈ ks) × (among k live ≡ false)) (in_order live last ks)
  unfolding in_order
  only last [] = tt
  only last (k ∷ ks) =
      let rest = All-map _ (λ j. (j ∈ k ∷ ks) × (among j live ≡ false)) (λ j h. (Memᴰ.tail h.0, h.1)) (in_order live (some k) ks) (only (some k) ks) in
      elim (whether (repeats last k)) [
        | inl t ↦ rw t rest
        | inr t ↦ elim (whether (among k live)) [ inl d ↦ rw (t, d) rest | inr d ↦ rw (t, d) ((Memᴰ.head refl, d), rest) ]
      ]

  -- each key that no function has is among them, or is the last one
  first-each : (last : MathOption (List ℕ)) (k : List ℕ) (ks : List (List ℕ)) → among k live ≡ false → (k ∈ added live last k ++ ks) ⊎ (last ≡ some k)
  first-each last k ks d = elim (whether (repeats last k)) [ inl t ↦ inr (repeated last k t) | inr t ↦ inl (rw (t, d) (Memᴰ.head refl)) ]

  rest-each : (last : MathOption (List ℕ)) (k : List ℕ) (ks : List (List ℕ)) {j : List ℕ} → j ∈ ks → j ∈ added live last k ++ ks
  rest-each last k ks m = elim (whether (repeats last k || among k live)) [ inl t ↦ rw t m | inr t ↦ rw t (Memᴰ.tail m) ]

  each : (last : MathOption (List ℕ)) (ks : List (List ℕ)) (j : List ℕ) → j ∈ ks → among j live ≡ false → (j ∈ in_order live last ks) ⊎ (last ≡ some j)
  unfolding in_order
  each last [] j m d = absurd (Memᴰ.not-nil m)
  each last (k ∷ ks) j m d =
      let here : j ≡ k → (j ∈ added live last k ++ in_order live (some k) ks) ⊎ (last ≡ some j) =
      λ q. subst (λ i. (i ∈ added live last k ++ in_order live (some k) ks) ⊎ (last ≡ some i)) (sym q) (first-each last k (in_order live (some k) ks) (sym (ap (λ i. among i live) q) ∙ d)) in
      elim (Memᴰ.cases_cons m) [
        | inl q ↦ here q
        | inr n ↦ elim (each (some k) ks j n d) [
          | inl i ↦ inl (rest-each last k (in_order live (some k) ks) i)
          | inr e ↦ here (sym (some_same k j e))
        ]
      ]

-- two lists that rise and have the same elements are the same
other : (x : List ℕ) (xs ys : List (List ℕ)) → All (λ j. before x j ≡ true) xs → ((k : List ℕ) → k ∈ x ∷ xs → k ∈ x ∷ ys) → (k : List ℕ) → k ∈ xs → k ∈ ys
other x xs ys a h k m =
    elim (Memᴰ.cases_cons (h k (Memᴰ.tail m))) [
      | inl q ↦ absurd (let e = ap (before x) (sym q) ∙ All-at _ xs a m in before-asym x x e e)
      | inr n ↦ n
    ]

pub rising-same : (xs ys : List (List ℕ)) → Rising before xs → Rising before ys → ((k : List ℕ) → k ∈ xs → k ∈ ys) → ((k : List ℕ) → k ∈ ys → k ∈ xs) → xs ≡ ys
rising-same [] [] r s h g = refl
rising-same [] (y ∷ ys) r s h g = absurd (Memᴰ.not-nil (g y (Memᴰ.head refl)))
rising-same (x ∷ xs) [] r s h g = absurd (Memᴰ.not-nil (h x (Memᴰ.head refl)))
rising-same (x ∷ xs) (y ∷ ys) r s h g =
    let q : x ≡ y =
    elim (Memᴰ.cases_cons (h x (Memᴰ.head refl))) [
      | inl e ↦ e
      | inr m ↦ elim (Memᴰ.cases_cons (g y (Memᴰ.head refl))) [
        | inl e ↦ sym e
        | inr n ↦ absurd (before-asym x y (All-at _ xs r.0 n) (All-at _ ys s.0 m))
      ]
    ] in
    let h' : (k : List ℕ) → k ∈ x ∷ xs → k ∈ x ∷ ys = subst (λ z. (k : List ℕ) → k ∈ x ∷ xs → k ∈ z ∷ ys) (sym q) h in
    let g' : (k : List ℕ) → k ∈ x ∷ ys → k ∈ x ∷ xs = subst (λ z. (k : List ℕ) → k ∈ z ∷ ys → k ∈ x ∷ xs) (sym q) g in
    let s' : All (λ j. before x j ≡ true) ys = subst (λ z. All (λ j. before z j ≡ true) ys) (sym q) s.0 in
    let rest = rising-same xs ys r.1 s.1 (other x xs ys r.0 h') (other x ys xs s' g') in
    ap (λ z. z ∷ xs) q ∙ ap (λ zs. y ∷ zs) rest

pub in_order_lem : (es : List Entry) (fs : List Fun) → Unfalling (map entry_key es) → in_order (map key fs) none (map entry_key es) ≡ stale es fs
in_order_lem es fs u =
    let ks = map entry_key es in
    let live = map key fs in
    rising-same (in_order live none ks) (stale es fs) (rises live none ks tt u).1 (stale-rising es fs)
    (λ k m. let o = All-at _ (in_order live none ks) (only live none ks) m in stale-each es fs o.0 o.1)
    (λ k m. let o = stale-only es fs m in elim (each live none ks k o.0 o.1) [ inl i ↦ i | inr e ↦ absurd (none-some k e) ])
  where
    none-some : (k : List ℕ) → none ≡ some k → ⊥
    none-some k e = let z : ◌≡◌ {A = ℕ} 0 1 = cc in omega arith
