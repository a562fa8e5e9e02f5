-- Which functions have a key: none where no function does, and those alone whose path is what stands before its first tab.
use Rattle.std.specs.Prelude.{ℕ, zero, suc, ◌+◌, ◌≤◌, ◌<◌, ◌≡◌, refl, Bool, true, false, List, [], ◌∷◌, map, eqb, ltb, length, get_or, take}
use Rattle.std.proofs.Common.{ap, sym, ◌∙◌, inl, inr, arith, eq-eqb, eqb-true, ltb-false, ltb-true, ne_eqb}
use Rattle.std.proofs.Math.Bool.{or-true}
use Rattle.std.proofs.lemmas.Bool.{eqb-false}
use Rattle.text_rules.specs.Bytes.{Lacks, among, same}
use Rattle.text_rules.specs.BytesLaws.{same_refl, same_true, true_false, whether}
use Rattle.text_rules.specs.Classes.{tab}
use Rattle.text_rules.specs.Search.{bytes_before, run}
use Rattle.gate_rules.specs.Functions.{Fun, key, key_of}
use Rattle.functions.specs.Shown.{no_fun}

-- no function from one number up to another has the key
abbrev pub NoneHas : List ℕ → List Fun → (from to : ℕ) → Type 0
NoneHas k fs from to = (i : ℕ) → from ≤ i → i < to → same k (key (get_or fs i no_fun)) ≡ false

-- no function but those from one number up to another has the key
pub record Only (k : List ℕ) (fs : List Fun) (from to : ℕ) : Type 0 where
  pub front : NoneHas k fs 0 from
  pub rest : NoneHas k fs to (length fs)

-- the path of a key: what stands before its first tab
abbrev pub path_of : List ℕ → List ℕ
path_of k = take (bytes_before tab k) k

pub same_sym_lem : (s t : List ℕ) → same s t ≡ same t s
same_sym_lem s t =
    elim (whether (same s t)) [
      | inl e ↦ let q = same_true s t e in rw (q)
      | inr e ↦ elim (whether (same t s)) [
        | inl d ↦ let q = same_true t s d in absurd (true_false (same s t) (ap (same s) q ∙ same_refl s) e)
        | inr d ↦ e ∙ sym d
      ]
    ]

pub none-live : (k : List ℕ) (fs : List Fun) → NoneHas k fs 0 (length fs) → among k (map key fs) ≡ false
none-live k [] h = refl
none-live k (f ∷ fs) h = rw (same_sym_lem (key f) k ∙ h 0 (omega arith) (omega arith), none-live k fs (λ i a b. h (suc i) (omega arith) (omega arith)))

pub one-live : (k : List ℕ) (fs : List Fun) (i : ℕ) → i < length fs → same k (key (get_or fs i no_fun)) ≡ true → among k (map key fs) ≡ true
one-live k [] i h e = absurd (omega arith)
one-live k (f ∷ fs) zero h e = rw (same_sym_lem (key f) k ∙ e)
one-live k (f ∷ fs) (suc i) h e = rw (one-live k fs i (omega arith) e) (or-true (same (key f) k))

unmarked : (x b : ℕ) (s : List ℕ) → (b ≡ x → ⊥) → bytes_before x (b ∷ s) ≡ suc (bytes_before x s)
unfolding run
unmarked x b s n = rw (ne_eqb b x n, run)

marked : (x : ℕ) (s : List ℕ) → bytes_before x (x ∷ s) ≡ 0
unfolding run
marked x s = rw (eq-eqb x x refl, run)

-- a path without a tab is what stands before the first tab of its keys
pub key-path : (p name : List ℕ) → Lacks tab p → path_of (key_of p name) ≡ p
key-path [] name h = ap (λ n. take n (tab ∷ name)) (marked tab name)
key-path (b ∷ p) name h = ap (λ n. take n (b ∷ key_of p name)) (unmarked tab b (key_of p name) h.0) ∙ ap (λ q. b ∷ q) (key-path p name h.1)

pub other_path : (k : List ℕ) (f : Fun) → Lacks tab f.path → (path_of k ≡ f.path → ⊥) → same k (key f) ≡ false
other_path k f h n =
    elim (whether (same k (key f))) [
      | inl e ↦ absurd (n (ap path_of (same_true k (key f) e) ∙ key-path f.path f.name h))
      | inr e ↦ e
    ]

-- one function more
pub none_more : (k : List ℕ) (fs : List Fun) (from i : ℕ) → NoneHas k fs from i → same k (key (get_or fs i no_fun)) ≡ false → NoneHas k fs from (i + 1)
none_more k fs from i h e j a b =
    elim (whether (eqb j i)) [
      | inl d ↦ ap (λ n. same k (key (get_or fs n no_fun))) (eqb-true j i d) ∙ e
      | inr d ↦ h j a (omega (arith, eqb-false j i d))
    ]

-- where only some may have the key, they decide whether one has
pub decided : (k : List ℕ) (fs : List Fun) (from to : ℕ) → Only k fs from to → (r : Bool) → (r ≡ true → among k (map key fs) ≡ true) → (r ≡ false → NoneHas k fs from to)
    → r ≡ among k (map key fs)
decided k fs from to o r live dead =
    elim (whether r) [
      | inl t ↦ t ∙ sym (live t)
      | inr t ↦ t ∙ sym (none-live k fs (λ i a b. none-at t i b))
    ]
  where
    none-at : r ≡ false → (i : ℕ) → i < length fs → same k (key (get_or fs i no_fun)) ≡ false
    none-at t i h =
        elim (whether (ltb i from)) [
          | inl a ↦ o.front i (omega arith) (ltb-true i from a)
          | inr a ↦ elim (whether (ltb i to)) [
            | inl b ↦ dead t i (omega (arith, ltb-false i from a)) (ltb-true i to b)
            | inr b ↦ o.rest i (omega (arith, ltb-false i to b)) h
          ]
        ]
