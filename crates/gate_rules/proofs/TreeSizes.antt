-- What is counted and summed over a tree that none of the refusals 1 to 4 applies to: never more than the tree's bytes, and so within u32.
use Rattle.std.specs.Prelude.{ℕ, ◌≤◌, ◌<◌, ◌≡◌, ltb, length}
use Rattle.std.proofs.Math.Logic.{inl, inr}
use mathlib.Core.List.{List, [], ◌∷◌, map}
use Rattle.std.proofs.Common.{arith}
use Rattle.text_rules.specs.Bytes.{All, total}
use Rattle.text_rules.specs.BytesLaws.{All-map, total-same, whether}
use Rattle.source_rules.specs.Blank.{blanked}
use Rattle.source_rules.proofs.BlankLaws.{blanked-length}
use Rattle.source_rules.specs.TextScan.{TextFun, functions}
use Rattle.source_rules.proofs.TextScanLaws.{Fine, branches_fit, count_fits}
use Rattle.gate_rules.specs.Functions.{Fun}
use Rattle.gate_rules.specs.Gate.{file_of, fun_of, functions_of_files, gate}
use Rattle.gate_rules.specs.Records.{records}
use Rattle.gate_rules.proofs.RecordsLaws.{records-count}
use Rattle.gate_rules.specs.Report.{Weight, sums_from, weight_of, weights}
use Rattle.gate_rules.specs.ReportCall.{sums_of}
use Rattle.gate_rules.specs.Scan.{Accepted, functions_of}
use Rattle.gate_rules.specs.Table.{PathFine}
use Rattle.gate_rules.specs.Tree.{Source, sources, tree_refusal}
use Rattle.gate_rules.proofs.TreeFunctions.{all_of_tree, total_of_files, total_of_tree}
use Rattle.gate_rules.proofs.TreeLaws.{InTree, sources-placed, unrefused}

-- ---- one function

-- a function's path is short, and its numbers are within u32
pub record Sized (f : Fun) : Type 0 where
  pub path-short : length f.path ≤ 1024
  pub line_u32 : f.line < 4294967296
  pub lines_u32 : f.lines < 4294967296
  pub cyclomatic_u32 : f.cyclomatic < 4294967296
  pub nesting_u32 : f.nesting < 4294967296
  pub params_u32 : f.params < 4294967296

sized : (tree : List ℕ) → length tree ≤ 16777216 → (s : Source) → InTree tree s → PathFine s.path → (f : TextFun) → Fine (blanked s.text) f → Sized (fun_of s.path f)
unfolding fun_of
sized tree short s p g f h =
    let size = blanked-length s.text in
    let inside = p.text-inside in
    let a = h.line-most in
    let b = h.lines-most in
    let c = h.cyclomatic-most in
    let d = h.nesting-most in
    let e = h.params-most in
    record {
      path-short = p.path-short;
      line_u32 = omega arith;
      lines_u32 = omega arith;
      cyclomatic_u32 = omega arith;
      nesting_u32 = omega arith;
      params_u32 = omega arith;
    }

pub functions-sized : (tree : List ℕ) → tree_refusal tree ≡ 0 → All Sized (functions_of gate tree)
functions-sized tree e = let t = unrefused tree e in all_of_tree tree Sized (sized tree t.short) t

-- ---- all functions

-- the cyclomatic numbers of a tree are together at most its length
branches_of_lem : (path text : List ℕ) → total (λ f. (fun_of path f).cyclomatic) (functions text) ≤ length text
unfolding fun_of
branches_of_lem path text = branches_fit text

pub tree_branches : (tree : List ℕ) → tree_refusal tree ≡ 0 → (total (λ f. f.cyclomatic) (functions_of gate tree) ≤ length tree) × (length tree ≤ 16777216)
tree_branches tree e = let t = unrefused tree e in (total_of_tree (λ f. f.cyclomatic) branches_of_lem tree t, t.short)

pub tree_branches_u32 : (tree : List ℕ) → tree_refusal tree ≡ 0 → total (λ f. f.cyclomatic) (functions_of gate tree) < 4294967296
tree_branches_u32 tree e = omega (arith, tree_branches tree e)

-- and so is the number of its functions, which are counted before more than 8,192 are refused
count_of : (path text : List ℕ) → total (λ f. 1) (functions text) ≤ length text
count_of path text = omega (arith, total-same 1 (functions text), count_fits text)

pub tree-functions : (tree : List ℕ) → tree_refusal tree ≡ 0 → (length (functions_of gate tree) ≤ length tree) × (length tree ≤ 16777216)
tree-functions tree e =
    let t = unrefused tree e in
    let n = total_of_tree (λ f. 1) count_of tree t in
    omega (arith, total-same 1 (functions_of gate tree), t.short)

pub tree-functions_u32 : (tree : List ℕ) → tree_refusal tree ≡ 0 → length (functions_of gate tree) < 4294967296
tree-functions_u32 tree e = omega (arith, tree-functions tree e)

-- there are as many records as functions
pub tree-records : (tree : List ℕ) → tree_refusal tree ≡ 0 → length (records tree) ≡ length (functions_of gate tree)
tree-records tree e = records-count tree (unrefused tree e)

pub records-few : (tree : List ℕ) → Accepted gate tree → length (records tree) ≤ 8192
unfolding gate
records-few tree a = omega (arith, tree-records tree a.unrefused, a.few)

-- ---- the sums of the files

module _ (tree : List ℕ) where
  file_branches : (s : Source) → InTree tree s → (weight_of functions_of_files (file_of s)).sum ≤ length tree
  unfolding weight_of
  file_branches s p = omega (arith, total_of_files (λ f. f.cyclomatic) branches_of_lem (s ∷ []), p.text-inside)

  from-sums : (number : ℕ) (ss : List Source) → All (InTree tree) ss → All (λ x. x.sum ≤ length tree) (sums_from functions_of_files number (map file_of ss))
  unfolding sums_from
  from-sums number [] p = tt
  from-sums number (s ∷ ss) p = (file_branches s p.0, from-sums _ ss p.1)

  -- a file's sum, and its path as it is listed
  abbrev pub Weighed : Weight → Type 0
  Weighed w = (w.sum ≤ length tree) × (length w.path ≤ 1024)

  weighed : (s : Source) → InTree tree s → Weighed (weight_of functions_of_files (file_of s))
  unfolding weight_of file_of
  weighed s p = (file_branches s p, p.path-short)

  from-weights : (ss : List Source) → All (InTree tree) ss → All Weighed (weights functions_of_files (map file_of ss))
  unfolding weights
  from-weights [] p = tt
  from-weights (s ∷ ss) p =
      elim (whether (ltb 0 (weight_of functions_of_files (file_of s)).functions)) [
        | inl t ↦ rw t (weighed s p.0, from-weights ss p.1)
        | inr t ↦ rw t (from-weights ss p.1)
      ]

  -- each entry of the table of sums
  pub sums_fit : tree_refusal tree ≡ 0 → All (λ x. x.sum ≤ length tree) (sums_of gate tree)
  unfolding sums_of gate
  sums_fit e = from-sums 0 (sources tree) (sources-placed tree (unrefused tree e))

  pub sums_u32 : tree_refusal tree ≡ 0 → All (λ x. x.sum < 4294967296) (sums_of gate tree)
  sums_u32 e = All-map (λ x. x.sum ≤ length tree) (λ x. x.sum < 4294967296) (λ x h. omega (arith, tree-functions tree e)) (sums_of gate tree) (sums_fit e)

  pub weights_fit : tree_refusal tree ≡ 0 → All Weighed (weights gate.functions_in (gate.files tree))
  unfolding gate
  weights_fit e = from-weights (sources tree) (sources-placed tree (unrefused tree e))
