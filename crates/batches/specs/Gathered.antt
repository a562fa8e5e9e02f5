-- The keys that may be taken, put one by one into a list that rises: those are the stale keys behind the last one taken.
use Rattle.std.specs.Prelude.{ℕ, ◌≡◌, Bool, false, not, ◌&&◌}
use Rattle.std.proofs.Math.Path.{refl, ap, sym}
use Rattle.std.proofs.Common.{◌∙◌, arith}
use Rattle.std.proofs.Math.Logic.{inl, inr}
use Rattle.std.proofs.Math.Bool.{true}
use mathlib.Core.List.Memᴰ
use mathlib.Core.List.{List, [], ◌∷◌, ◌++◌, map}
use Rattle.std.proofs.Math.Option.{Option}
use Rattle.std.proofs.Math.ListN.{take}
use Rattle.std.proofs.Math.Seq.{take-take}
use Rattle.std.proofs.lemmas.Bool.{not-true}
use Rattle.text_rules.specs.Bytes.{All, ◌∈◌, among, before, if◌then◌otherwise◌, kept}
use Rattle.text_rules.specs.BytesLaws.{All-at, and_left, and_right, kept_iff, whether}
use Rattle.text_rules.specs.Selection.{Rising}
use Rattle.gate_rules.specs.Baseline.{Entry, entry_key}
use Rattle.gate_rules.specs.Check.{stale}
use Rattle.gate_rules.specs.Functions.{Fun, key}
use Rattle.gate_rules.proofs.StaleLaws.{stale-each, stale-only, stale-rising}
use Rattle.in_order.specs.InOrder.{rising-same}
use Rattle.in_order.specs.StaleKeys.{behind}
use Rattle.batches.specs.Behind.{kept-rising}
use Rattle.sorted_keys.specs.Insert.{insert, insert_all, insert_it, insert-others, insert-rising, insert-take}

module _ (live : List (List ℕ)) (last : Option (List ℕ)) where
  -- a key may be taken: it stands behind the last one, and no function has it
  abbrev pub fits : List ℕ → Bool
  fits k = behind last k && not (among k live)

  module _ (k : List ℕ) where
    pub fits_both : behind last k ≡ true → among k live ≡ false → fits k ≡ true
    fits_both b a = rw (b, a)

    pub not_behind : behind last k ≡ false → fits k ≡ false
    not_behind b = rw b

    pub not_stale : among k live ≡ true → fits k ≡ false
    not_stale a = elim (whether (behind last k)) [ inl b ↦ rw (b, a) | inr b ↦ rw b ]

    fits-parts : fits k ≡ true → (behind last k ≡ true) × (among k live ≡ false)
    fits-parts e = (and_left (behind last k) (not (among k live)) e, not-true (among k live) (and_right (behind last k) (not (among k live)) e))

  -- a key more, where it may be taken
  abbrev pub one_more : List ℕ → List (List ℕ) → List (List ℕ)
  one_more k ks = if fits k then insert k ks otherwise ks

  -- those of the keys that may be taken, put in one by one
  unfoldable pub gathered : (ks keys : List (List ℕ)) → List (List ℕ)
  gathered ks [] = ks
  gathered ks (k ∷ keys) = gathered (one_more k ks) keys

  -- no key, and one
  pub gathered_none : (ks : List (List ℕ)) → gathered ks [] ≡ ks
  unfolding gathered
  gathered_none ks = refl

  pub gathered-one : (ks : List (List ℕ)) (k : List ℕ) → gathered ks (k ∷ []) ≡ one_more k ks
  unfolding gathered
  gathered-one ks k = refl

  pub gathered-append : (ks js keys : List (List ℕ)) → gathered ks (js ++ keys) ≡ gathered (gathered ks js) keys
  unfolding gathered
  gathered-append ks [] keys = refl
  gathered-append ks (j ∷ js) keys = gathered-append (one_more j ks) js keys

  more-rising : (k : List ℕ) (ks : List (List ℕ)) → Rising before ks → Rising before (one_more k ks)
  more-rising k ks r = elim (whether (fits k)) [ inl e ↦ rw e (insert-rising k ks r) | inr e ↦ rw e r ]

  pub gathered-rising : (ks keys : List (List ℕ)) → Rising before ks → Rising before (gathered ks keys)
  unfolding gathered
  gathered-rising ks [] r = r
  gathered-rising ks (k ∷ keys) r = gathered-rising (one_more k ks) keys (more-rising k ks r)

  -- the first so many afterwards come from the first so many before
  more-take : (m : ℕ) (k : List ℕ) (ks : List (List ℕ)) → take m (one_more k (take m ks)) ≡ take m (one_more k ks)
  more-take m k ks = elim (whether (fits k)) [ inl e ↦ rw e (insert-take k m ks) | inr e ↦ rw e (take-take m m ks (omega arith)) ]

  pub gathered-take : (m : ℕ) (ks keys : List (List ℕ)) → take m (gathered (take m ks) keys) ≡ take m (gathered ks keys)
  unfolding gathered
  gathered-take m ks [] = take-take m m ks (omega arith)
  gathered-take m ks (k ∷ keys) =
      sym (gathered-take m (one_more k (take m ks)) keys)
      ∙ ap (λ js. take m (gathered js keys)) (more-take m k ks)
      ∙ gathered-take m (one_more k ks) keys

  -- only keys that may be taken are put in
  gathered-all : (P : List ℕ → Type 0) (ks keys : List (List ℕ)) → ((k : List ℕ) → k ∈ keys → fits k ≡ true → P k) → All P ks → All P (gathered ks keys)
  unfolding gathered
  gathered-all P ks [] f h = h
  gathered-all P ks (k ∷ keys) f h =
      gathered-all P (one_more k ks) keys (λ j m. f j (Memᴰ.tail m))
      (elim (whether (fits k)) [ inl e ↦ rw e (insert_all k P ks (f k (Memᴰ.head refl) e) h) | inr e ↦ rw e h ])

  -- and each of them is
  gathered-stays : (ks keys : List (List ℕ)) {z : List ℕ} → z ∈ ks → z ∈ gathered ks keys
  unfolding gathered
  gathered-stays ks [] m = m
  gathered-stays ks (k ∷ keys) m = gathered-stays (one_more k ks) keys (elim (whether (fits k)) [ inl e ↦ rw e (insert-others k ks m) | inr e ↦ rw e m ])

  gathered-each : (ks keys : List (List ℕ)) {z : List ℕ} → z ∈ keys → fits z ≡ true → z ∈ gathered ks keys
  unfolding gathered
  gathered-each ks (k ∷ keys) {z} m e =
      elim (Memᴰ.cases_cons m) [
        | inl q ↦ let t : fits k ≡ true = ap (λ j. fits j) (sym q) ∙ e in gathered-stays (one_more k ks) keys (rw (t, q) (insert_it k ks))
        | inr n ↦ gathered-each (one_more k ks) keys n e
      ]
  gathered-each ks [] m e = elim m [ ]

-- the keys of entries that may be taken are the stale keys behind the last one
module _ (es : List Entry) (fs : List Fun) (last : Option (List ℕ)) where
  pub gathered-is : gathered (map key fs) last [] (map entry_key es) ≡ kept (behind last) (stale es fs)
  gathered-is =
      let live = map key fs in
      let keys = map entry_key es in
      rising-same (gathered live last [] keys) (kept (behind last) (stale es fs)) (gathered-rising live last [] keys tt) (kept-rising (behind last) (stale es fs) (stale-rising es fs))
      (λ z m.
      let p = All-at (λ k. (k ∈ keys) × ((behind last k ≡ true) × (among k live ≡ false))) (gathered live last [] keys) (gathered-all live last (λ k. (k ∈ keys) × ((behind last k ≡ true) × (among k live ≡ false))) [] keys (λ k n e. (n, fits-parts live last k e)) tt) m in
      (kept_iff (behind last) (stale es fs) z).1 (stale-each es fs p.0 p.1.1, p.1.0))
      (λ z m.
      let a = (kept_iff (behind last) (stale es fs) z).0 m in
      let o = stale-only es fs a.0 in
      gathered-each live last [] keys o.0 (fits_both live last z a.1 o.1))
