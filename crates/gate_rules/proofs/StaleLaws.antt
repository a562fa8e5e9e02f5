-- The stale keys: exactly the keys of entries that no function has, strictly rising in byte order, so each once.
use Rattle.std.specs.Prelude.{ℕ, ◌≤◌, ◌≡◌, ◌≢◌, ◌↔◌, true, false, not, List, [], ◌∷◌, map}
use Rattle.std.proofs.Common.{sym, inl, inr, arith}
use Rattle.std.proofs.Math.Bool.{or-true}
use mathlib.Core.List.Memᴰ
use Rattle.std.proofs.lemmas.Bool.{not-true}
use Rattle.text_rules.specs.ByteOrder.{before-total, before_trans}
use Rattle.text_rules.specs.Bytes.{All, ◌∈◌, among, before, same, total}
use Rattle.text_rules.specs.BytesLaws.{All-at, All_in, All-map, kept-all, kept_in, kept-total, or_cases, same_refl, same_true, total-map, true_false, whether}
use Rattle.text_rules.specs.Order.{insert, sort}
use Rattle.text_rules.proofs.OrderLaws.{insert_all, sort-all, sort_in, sort-total}
use Rattle.text_rules.specs.Selection.{Rising}
use Rattle.gate_rules.specs.Baseline.{Entry, entry_key}
use Rattle.gate_rules.specs.Check.{distinct, gone, stale}
use Rattle.gate_rules.specs.Functions.{Fun, key}

pub among_in : (ss : List (List ℕ)) {s : List ℕ} → s ∈ ss → among s ss ≡ true
among_in (t ∷ ss) (Memᴰ.head q) = rw (q, same_refl t)
among_in (t ∷ ss) {s} (Memᴰ.tail m) = rw (among_in ss m) (or-true (same t s))
among_in [] m = elim m [ ]

live_not : (live : List (List ℕ)) (k : List ℕ) → not (among k live) ≡ true → among k live ≡ false
live_not live k e = not-true (among k live) e

-- P holds of the keys that are not live
gone-all : (P : List ℕ → Type 0) (live ks : List (List ℕ)) → All P ks → All (λ k. P k × (among k live ≡ false)) (gone live ks)
unfolding gone
gone-all P live ks h =
    All-map (λ k. P k × (not (among k live) ≡ true)) (λ k. P k × (among k live ≡ false)) (λ k p. (p.0, live_not live k p.1)) (gone live ks)
    (kept-all (λ k. not (among k live)) P ks h)

gone_in : (live ks : List (List ℕ)) {k : List ℕ} → k ∈ ks → among k live ≡ false → k ∈ gone live ks
unfolding gone
gone_in live ks {k} m e = kept_in (λ k. not (among k live)) ks m (rw e)

distinct-all : (P : List ℕ → Type 0) (ks : List (List ℕ)) → All P ks → All P (distinct ks)
unfolding distinct
distinct-all P [] h = tt
distinct-all P (k ∷ ks) h =
    elim (whether (among k ks)) [
      | inl e ↦ rw e (distinct-all P ks h.1)
      | inr e ↦ rw e (h.0, distinct-all P ks h.1)
    ]

pub among_true : (s : List ℕ) (ts : List (List ℕ)) → among s ts ≡ true → s ∈ ts
among_true s [] e = let z : ◌≡◌ {A = ℕ} 0 1 = cc in absurd (omega arith)
among_true s (t ∷ ts) e =
    elim (or_cases (same t s) (among s ts) e) [
      | inl d ↦ Memᴰ.head (sym (same_true t s d))
      | inr d ↦ Memᴰ.tail (among_true s ts d)
    ]

distinct_in : (ks : List (List ℕ)) {k : List ℕ} → k ∈ ks → k ∈ distinct ks
unfolding distinct
distinct_in (j ∷ ks) {k} m =
    elim (whether (among j ks)) [
      | inl e ↦ rw e (elim (Memᴰ.cases_cons m) [ inl q ↦ rw q (distinct_in ks (among_true j ks e)) | inr n ↦ distinct_in ks n ])
      | inr e ↦ rw e (elim (Memᴰ.cases_cons m) [ inl q ↦ Memᴰ.head q | inr n ↦ Memᴰ.tail (distinct_in ks n) ])
    ]
distinct_in [] m = elim m [ ]

-- no element stands twice
abbrev pub Apart : List (List ℕ) → Type 0
Apart [] = Unit {0}
Apart (k ∷ ks) = All (λ j. j ≢ k) ks × Apart ks

not_among : (k : List ℕ) (ks : List (List ℕ)) → among k ks ≡ false → All (λ j. j ≢ k) ks
not_among k ks e = All-map (λ j. j ∈ ks) (λ j. j ≢ k) (λ j m q. let t = among_in ks (rw q at m) in let z : ◌≡◌ {A = ℕ} 0 1 = cc in omega arith) ks (All_in ks)

pub distinct_apart : (ks : List (List ℕ)) → Apart (distinct ks)
unfolding distinct
distinct_apart [] = tt
distinct_apart (k ∷ ks) =
    elim (whether (among k ks)) [
      | inl e ↦ rw e (distinct_apart ks)
      | inr e ↦ rw e (distinct-all (λ j. j ≢ k) ks (not_among k ks e), distinct_apart ks)
    ]

insert_strict : (k : List ℕ) (ks : List (List ℕ)) → All (λ j. j ≢ k) ks → Rising before ks → Rising before (insert before k ks)
unfolding insert
insert_strict k [] h r = (tt, tt)
insert_strict k (j ∷ ks) h r =
    elim (whether (before j k)) [
      | inl e ↦ rw e (insert_all before (λ i. before j i ≡ true) k ks e r.0, insert_strict k ks h.1 r.1)
      | inr e ↦ elim (whether (before k j)) [
        | inl d ↦ rw e ((d, All-map (λ i. before j i ≡ true) (λ i. before k i ≡ true) (λ i b. before_trans k j i d b) ks r.0), r)
        | inr d ↦ absurd (h.0 (before-total j k e d))
      ]
    ]

pub sort_strict : (ks : List (List ℕ)) → Apart ks → Rising before (sort before ks)
unfolding sort
sort_strict [] h = tt
sort_strict (k ∷ ks) h = insert_strict k (sort before ks) (sort-all before (λ j. j ≢ k) ks h.0) (sort_strict ks h.1)

pub stale-rising : (es : List Entry) (fs : List Fun) → Rising before (stale es fs)
unfolding stale
stale-rising es fs = sort_strict (distinct (gone (map key fs) (map entry_key es))) (distinct_apart (gone (map key fs) (map entry_key es)))

-- a stale key is an entry's and no function's
pub stale-only : (es : List Entry) (fs : List Fun) {k : List ℕ} → k ∈ stale es fs → (k ∈ map entry_key es) × (among k (map key fs) ≡ false)
unfolding stale
stale-only es fs m =
    let ks = map entry_key es in
    All-at _ (stale es fs) (sort-all before _ (distinct (gone (map key fs) ks)) (distinct-all _ (gone (map key fs) ks) (gone-all (λ k. k ∈ ks) (map key fs) ks (All_in ks)))) m

-- and each such key is stale
pub stale-each : (es : List Entry) (fs : List Fun) {k : List ℕ} → k ∈ map entry_key es → among k (map key fs) ≡ false → k ∈ stale es fs
unfolding stale
stale-each es fs m e = sort_in before (distinct (gone (map key fs) (map entry_key es))) (distinct_in (gone (map key fs) (map entry_key es)) (gone_in (map key fs) (map entry_key es) m e))

-- the stale keys, in one statement: strictly rising in byte order, so each once, and exactly the keys of entries that no function has
pub record StaleKeys (es : List Entry) (fs : List Fun) (ks : List (List ℕ)) : Type 0 where
  pub rising : Rising before ks
  pub exact : (k : List ℕ) → (k ∈ ks) ↔ ((k ∈ map entry_key es) × (k ∈ map key fs → ⊥))

pub stale-keys : (es : List Entry) (fs : List Fun) → StaleKeys es fs (stale es fs)
stale-keys es fs =
    record {
      rising = stale-rising es fs;
      exact = λ k. (
        λ m. let o = stale-only es fs m in (o.0, λ n. true_false (among k (map key fs)) (among_in (map key fs) n) o.1),
        λ h. elim (whether (among k (map key fs))) [ inl e ↦ absurd (h.1 (among_true k (map key fs) e)) | inr e ↦ stale-each es fs h.0 e ],
      );
    }

-- a measure of the stale keys together is at most that of the keys of all entries
distinct-most : (w : List ℕ → ℕ) (ks : List (List ℕ)) → total w (distinct ks) ≤ total w ks
unfolding distinct
distinct-most w [] = omega arith
distinct-most w (k ∷ ks) =
    elim (whether (among k ks)) [
      | inl e ↦ rw e (omega (arith, distinct-most w ks))
      | inr e ↦ rw e (omega (arith, distinct-most w ks))
    ]

pub stale-most : (w : List ℕ → ℕ) (es : List Entry) (fs : List Fun) → total w (stale es fs) ≤ total (λ e. w (entry_key e)) es
unfolding stale gone
stale-most w es fs =
    let ks = map entry_key es in
    omega (
      arith,
      sort-total before w (distinct (gone (map key fs) ks)),
      distinct-most w (gone (map key fs) ks),
      kept-total (λ k. not (among k (map key fs))) w ks,
      total-map w entry_key es,
    )
