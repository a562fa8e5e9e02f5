-- The functions of an accepted tree stand in the order of their paths: no path stands before that of an earlier function.
use Rattle.std.specs.Prelude.{ℕ, zero, suc, ◌≤◌, ◌<◌, ◌≡◌, refl, ◌⊎◌, true, false, eqb, length, get_or}
use Rattle.std.proofs.Common.{ap, sym, ◌∙◌, inl, inr, arith, eq-eqb, eqb-true, ne_eqb}
use mathlib.Core.List.{List, [], ◌∷◌, ◌++◌, map}
use Rattle.std.proofs.lemmas.Bool.{eqb-false}
use Rattle.text_rules.specs.ByteOrder.{by-text}
use Rattle.text_rules.specs.Bytes.{All, before}
use Rattle.text_rules.specs.BytesLaws.{All-append, All-map, true_false, whether}
use Rattle.text_rules.specs.Classes.{slash}
use Rattle.source_rules.specs.TextScan.{TextFun, functions}
use Rattle.gate_rules.proofs.ConditionLaws.{paths_up}
use Rattle.gate_rules.specs.Functions.{Fun}
use Rattle.gate_rules.specs.Gate.{file_of, fun_of, functions_of_file, functions_of_files, gate}
use Rattle.gate_rules.specs.Scan.{functions_of}
use Rattle.gate_rules.specs.Tree.{PathsUp, Source, path_before, rank, sources, tree_refusal}
use Rattle.gate_rules.proofs.TreeLaws.{unrefused}
use Rattle.functions.specs.Shown.{no_fun}

more : (b c : ℕ) → eqb b c ≡ eqb (suc b) (suc c)
more b c =
    elim (whether (eqb b c)) [
      | inl e ↦ e ∙ sym (eq-eqb (suc b) (suc c) (ap suc (eqb-true b c e)))
      | inr e ↦ e ∙ sym (ne_eqb (suc b) (suc c) (λ q. eqb-false b c e (omega arith)))
    ]

-- a byte's rank tells the byte
rank_eqb : (b c : ℕ) → eqb b c ≡ eqb (rank b) (rank c)
unfolding rank
rank_eqb b c =
    elim (whether (eqb b slash)) [
      | inl e ↦ elim (whether (eqb c slash)) [
        | inl d ↦ rw (e, d) (eq-eqb b c (eqb-true b slash e ∙ sym (eqb-true c slash d)))
        | inr d ↦ rw (e, d) (ne_eqb b c (λ q. eqb-false c slash d (sym q ∙ eqb-true b slash e)) ∙ sym (ne_eqb 0 (suc c) (λ q. omega arith)))
      ]
      | inr e ↦ elim (whether (eqb c slash)) [
        | inl d ↦ rw (e, d) (ne_eqb b c (λ q. eqb-false b slash e (q ∙ eqb-true c slash d)) ∙ sym (ne_eqb (suc b) 0 (λ q. omega arith)))
        | inr d ↦ rw (e, d) (more b c)
      ]
    ]

-- the order of paths is that of their bytes' ranks
path_ranks : (p q : List ℕ) → path_before p q ≡ before (map rank p) (map rank q)
unfolding path_before
path_ranks [] [] = refl
path_ranks [] (c ∷ q) = refl
path_ranks (b ∷ p) [] = refl
path_ranks (b ∷ p) (c ∷ q) = rw (rank_eqb b c, path_ranks p q)

path-asym : (p q : List ℕ) → path_before p q ≡ true → path_before q p ≡ true → ⊥
path-asym p q h k = (by-text (map rank)).asym p q (sym (path_ranks p q) ∙ h) (sym (path_ranks q p) ∙ k)

pub path-splits : (p q r : List ℕ) → path_before p r ≡ true → (path_before p q ≡ true) ⊎ (path_before q r ≡ true)
path-splits p q r h =
    elim ((by-text (map rank)).splits p q r (sym (path_ranks p r) ∙ h)) [
      | inl e ↦ inl (path_ranks p q ∙ e)
      | inr e ↦ inr (path_ranks q r ∙ e)
    ]

pub path_not : (p q : List ℕ) → path_before p q ≡ true → path_before q p ≡ false
path_not p q h = elim (whether (path_before q p)) [ inl e ↦ absurd (path-asym p q h e) | inr e ↦ e ]

pub path_itself : (p : List ℕ) → path_before p p ≡ false
path_itself p = elim (whether (path_before p p)) [ inl e ↦ absurd (path-asym p p e e) | inr e ↦ e ]

path_trans : (p q r : List ℕ) → path_before p q ≡ true → path_before q r ≡ true → path_before p r ≡ true
path_trans p q r h k =
    elim (path-splits p r q h) [
      | inl e ↦ e
      | inr e ↦ absurd (path-asym q r k e)
    ]

-- no path stands before an earlier one
abbrev Unfalling : List Fun → Type 0
Unfalling [] = Unit {0}
Unfalling (f ∷ fs) = All (λ g. path_before g.path f.path ≡ false) fs × Unfalling fs

-- functions of one file, before others that stand behind it
module _ (p : List ℕ) (gs : List Fun) (h : All (λ g. path_before p g.path ≡ true) gs) (u : Unfalling gs) where
  not-before : (ts : List TextFun) → All (λ g. path_before g.path p ≡ false) (map (fun_of p) ts ++ gs)
  unfolding fun_of
  not-before [] = All-map (λ g. path_before p g.path ≡ true) (λ g. path_before g.path p ≡ false) (λ g k. path_not p g.path k) gs h
  not-before (t ∷ ts) = (path_itself p, not-before ts)

  one-file : (ts : List TextFun) → Unfalling (map (fun_of p) ts ++ gs)
  unfolding fun_of
  one-file [] = u
  one-file (t ∷ ts) = (not-before ts, one-file ts)

all_have : (P : Fun → Type 0) (p : List ℕ) → ((t : TextFun) → P (fun_of p t)) → (ts : List TextFun) → All P (map (fun_of p) ts)
all_have P p h [] = tt
all_have P p h (t ∷ ts) = (h t, all_have P p h ts)

-- files whose paths rise behind a path
behind-all : (p : List ℕ) (ss : List Source) → PathsUp (p ∷ map (λ s. s.path) ss) → All (λ g. path_before p g.path ≡ true) (functions_of_files (map file_of ss))
unfolding functions_of_files functions_of_file file_of fun_of
behind-all p [] u = tt
behind-all p (s ∷ ss) u =
    All-append (λ g. path_before p g.path ≡ true) (map (fun_of s.path) (functions (file_of s).blanked)) (functions_of_files (map file_of ss))
    (all_have (λ g. path_before p g.path ≡ true) s.path (λ t. u.0) (functions (file_of s).blanked))
    (All-map (λ g. path_before s.path g.path ≡ true) (λ g. path_before p g.path ≡ true) (λ g k. path_trans p s.path g.path u.0 k) (functions_of_files (map file_of ss)) (behind-all s.path ss u.1))

files_unfalling : (p : List ℕ) (ss : List Source) → PathsUp (p ∷ map (λ s. s.path) ss) → Unfalling (functions_of_files (map file_of ss))
unfolding functions_of_files functions_of_file file_of
files_unfalling p [] u = tt
files_unfalling p (s ∷ ss) u = one-file s.path (functions_of_files (map file_of ss)) (behind-all s.path ss u.1) (files_unfalling s.path ss u.1) (functions (file_of s).blanked)

-- by their numbers
pub all_there : (P : Fun → Type 0) (fs : List Fun) → All P fs → (i : ℕ) → i < length fs → P (get_or fs i no_fun)
all_there P [] h i k = absurd (omega arith)
all_there P (f ∷ fs) h zero k = h.0
all_there P (f ∷ fs) h (suc i) k = all_there P fs h.1 i (omega arith)

numbered : (fs : List Fun) → Unfalling fs → (i j : ℕ) → i ≤ j → j < length fs → path_before (get_or fs j no_fun).path (get_or fs i no_fun).path ≡ false
numbered [] u i j h k = absurd (omega arith)
numbered (f ∷ fs) u zero zero h k = path_itself f.path
numbered (f ∷ fs) u zero (suc j) h k = all_there (λ g. path_before g.path f.path ≡ false) fs u.0 j (omega arith)
numbered (f ∷ fs) u (suc i) zero h k = absurd (omega arith)
numbered (f ∷ fs) u (suc i) (suc j) h k = numbered fs u.1 i j (omega arith) (omega arith)

module _ (tree : List ℕ) (r : tree_refusal tree ≡ 0) where
  pub functions_unfalling : (i j : ℕ) → i ≤ j → j < length (functions_of gate tree) → path_before (get_or (functions_of gate tree) j no_fun).path (get_or (functions_of gate tree) i no_fun).path ≡ false
  unfolding gate
  functions_unfalling = numbered (functions_of gate tree) (files_unfalling [] (sources tree) (paths_up [] (sources tree) (unrefused tree r).paths))

  -- where one path stands before a path, so do those in front of it; where one stands behind it, so do those that follow
  module _ (p : List ℕ) (m : ℕ) (h : m < length (functions_of gate tree)) where
    pub before-front : path_before (get_or (functions_of gate tree) m no_fun).path p ≡ true → (i : ℕ) → i ≤ m → path_before (get_or (functions_of gate tree) i no_fun).path p ≡ true
    before-front e i k =
        elim (path-splits (get_or (functions_of gate tree) m no_fun).path (get_or (functions_of gate tree) i no_fun).path p e) [
          | inl d ↦ absurd (true_false _ d (functions_unfalling i m k h))
          | inr d ↦ d
        ]

    pub behind-rest : path_before p (get_or (functions_of gate tree) m no_fun).path ≡ true → (i : ℕ) → m ≤ i → i < length (functions_of gate tree) → path_before p (get_or (functions_of gate tree) i no_fun).path ≡ true
    behind-rest e i k l =
        elim (path-splits p (get_or (functions_of gate tree) i no_fun).path (get_or (functions_of gate tree) m no_fun).path e) [
          | inl d ↦ d
          | inr d ↦ absurd (true_false _ d (functions_unfalling m i k l))
        ]
