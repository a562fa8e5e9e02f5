-- What is known of the sums of a tree's files.
use Rattle.std.specs.Prelude.{ℕ, ◌≤◌, ◌<◌, ◌≡◌, true, List, length, get_or}
use Rattle.gate_rules.specs.Records.{records}
use Rattle.gate_rules.specs.SumOver.{sum_over}
use Rattle.gate_rules.specs.Tree.{file_count, is_laid_out, tree_refusal}
use Rattle.gate_rules.proofs.TreeLaws.{laid_out, unrefused}

-- at each number below 1,024 stands the sum of the file with that number
pub record Sums (tree of : List ℕ) : Type 0 where
  pub size : length of ≡ 1024
  pub sum_of : (k : ℕ) → k < 1024 → get_or of k 0 ≡ sum_over k (records tree)

-- the sums that are known are those of an unrefused tree
pub record Known (tree of : List ℕ) : Type 0 where
  pub unrefused : tree_refusal tree ≡ 0
  pub sums : Sums tree of

-- what is known of the tree
pub known-laid : (tree of : List ℕ) → Known tree of → is_laid_out tree ≡ true
known-laid tree of known = (unrefused tree known.unrefused).laid

pub known-few : (tree of : List ℕ) → Known tree of → file_count tree ≤ 1024
known-few tree of known = (laid_out tree (known-laid tree of known)).few
