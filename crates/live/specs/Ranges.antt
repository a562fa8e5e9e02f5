-- Functions whose paths stand before or behind what stands before a key's first tab do not have the key.
use Rattle.std.specs.Prelude.{ℕ, ◌+◌, ◌-◌, ◌≤◌, ◌<◌, ◌≡◌, true, false, List, length, get_or}
use Rattle.std.proofs.Common.{ap, ◌∙◌, arith}
use Rattle.text_rules.specs.Bytes.{same}
use Rattle.text_rules.specs.BytesLaws.{true_false}
use Rattle.gate_rules.specs.Functions.{key}
use Rattle.gate_rules.specs.Gate.{gate}
use Rattle.gate_rules.proofs.GateLaws.{gate_laws}
use Rattle.gate_rules.specs.Scan.{WellMade, functions_of}
use Rattle.gate_rules.specs.Tree.{path_before}
use Rattle.functions.specs.Shown.{Stand, no_fun}
use Rattle.functions.proofs.Accepted.{accepted}
use Rattle.live.specs.Live.{Only, other_path, path_of}
use Rattle.live.specs.PathOrder.{all_there, before-front, behind-rest, path_itself}

module _ (tree lent : List ℕ) (stand : Stand tree lent) (k : List ℕ) where
  made : (i : ℕ) → i < length (functions_of gate tree) → WellMade (get_or (functions_of gate tree) i no_fun)
  made = all_there WellMade (functions_of gate tree) (gate_laws.well_made tree (accepted tree lent stand))

  module _ (p : List ℕ) (e : p ≡ path_of k) (i : ℕ) (h : i < length (functions_of gate tree)) where
    other : (p ≡ (get_or (functions_of gate tree) i no_fun).path → ⊥) → same k (key (get_or (functions_of gate tree) i no_fun)) ≡ false
    other n = other_path k (get_or (functions_of gate tree) i no_fun) (made i h).path-tab (λ q. n (e ∙ q))

    not_front : path_before (get_or (functions_of gate tree) i no_fun).path p ≡ true → same k (key (get_or (functions_of gate tree) i no_fun)) ≡ false
    not_front b = other (λ q. true_false _ (ap (λ s. path_before s p) q ∙ b) (path_itself p))

    not_rest : path_before p (get_or (functions_of gate tree) i no_fun).path ≡ true → same k (key (get_or (functions_of gate tree) i no_fun)) ≡ false
    not_rest b = other (λ q. true_false _ (ap (path_before p) q ∙ b) (path_itself p))

  -- those in front of a number and those from another on have other paths
  pub only : (p : List ℕ) → p ≡ path_of k → (from to : ℕ) → from ≤ length (functions_of gate tree)
      → ((i : ℕ) → i < from → path_before (get_or (functions_of gate tree) i no_fun).path p ≡ true)
      → ((i : ℕ) → to ≤ i → i < length (functions_of gate tree) → path_before p (get_or (functions_of gate tree) i no_fun).path ≡ true) → Only k (functions_of gate tree) from to
  only p e from to h front rest =
      record {
        front = λ i a b. not_front p e i (omega arith) (front i b);
        rest = λ i a b. not_rest p e i b (rest i a b);
      }

  -- it is enough to know of the last one in front and of the first one from there on
  pub only_ends : (p : List ℕ) → p ≡ path_of k → (from to n : ℕ) → n ≡ length (functions_of gate tree) → from ≤ n
      → ((m : ℕ) → m + 1 ≡ from → path_before (get_or (functions_of gate tree) m no_fun).path p ≡ true)
      → (to < n → path_before p (get_or (functions_of gate tree) to no_fun).path ≡ true) → Only k (functions_of gate tree) from to
  only_ends p e from to n all h last first =
      only p e from to (omega arith)
      (λ i a. before-front tree stand.unrefused p (from - 1) (omega arith) (last (from - 1) (omega arith)) i (omega arith))
      (λ i a b. behind-rest tree stand.unrefused p to (omega arith) (first (omega arith)) i a b)
