-- What is shown of the functions of one text goes over to those of a whole tree: a property of each function, and a sum over all of them.
use Rattle.std.specs.Prelude.{ℕ, ◌≤◌, length}
use mathlib.Core.List.{List, [], ◌∷◌, map}
use native.Mathlib.Omega.{arith}
use Rattle.text_rules.specs.Bytes.{All, total}
use Rattle.text_rules.specs.BytesLaws.{All-append, total-append, total-map}
use Rattle.source_rules.specs.Blank.{blanked}
use Rattle.source_rules.proofs.BlankLaws.{blanked-length}
use Rattle.source_rules.specs.TextScan.{TextFun, functions}
use Rattle.source_rules.proofs.TextScanLaws.{Fine, functions-fine}
use Rattle.gate_rules.proofs.ConditionLaws.{paths-good}
use Rattle.gate_rules.specs.Functions.{Fun}
use Rattle.gate_rules.specs.Gate.{file_of, fun_of, functions_of_file, functions_of_files, gate}
use Rattle.gate_rules.specs.Scan.{functions_of}
use Rattle.gate_rules.specs.Table.{PathFine}
use Rattle.gate_rules.specs.Tree.{Source, sources}
use Rattle.gate_rules.proofs.TreeLaws.{InTree, SoundTree, sources-placed, texts_fit}

module _ (tree : List ℕ) (P : Fun → Type 0) (each : (s : Source) → InTree tree s → PathFine s.path → (f : TextFun) → Fine (blanked s.text) f → P (fun_of s.path f)) where
  in_file : (s : Source) → InTree tree s → PathFine s.path → (fs : List TextFun) → All (Fine (blanked s.text)) fs → All P (map (fun_of s.path) fs)
  in_file s p g [] h = tt
  in_file s p g (f ∷ fs) h = (each s p g f h.0, in_file s p g fs h.1)

  in_files : (ss : List Source) → All (InTree tree) ss → All (λ s. PathFine s.path) ss → All P (functions_of_files (map file_of ss))
  unfolding functions_of_files functions_of_file file_of
  in_files [] p g = tt
  in_files (s ∷ ss) p g =
      All-append P (map (fun_of s.path) (functions (blanked s.text))) _
      (in_file s p.0 g.0 (functions (blanked s.text)) (functions-fine (blanked s.text)))
      (in_files ss p.1 g.1)

  -- what holds of each function that a placed file with a good path has holds of every function of the tree
  pub all_of_tree : SoundTree tree → All P (functions_of gate tree)
  unfolding gate
  all_of_tree t = in_files (sources tree) (sources-placed tree t) (paths-good [] (sources tree) t.paths)

module _ (w : Fun → ℕ) (each : (path text : List ℕ) → total (λ f. w (fun_of path f)) (functions text) ≤ length text) where
  -- a measure that each text bounds is bounded by the texts together
  pub total_of_files : (ss : List Source) → total w (functions_of_files (map file_of ss)) ≤ total (λ s. length s.text) ss
  unfolding functions_of_files functions_of_file file_of
  total_of_files [] = omega arith
  total_of_files (s ∷ ss) =
      let here = functions (blanked s.text) in
      omega (
        arith,
        total-append w (map (fun_of s.path) here) (functions_of_files (map file_of ss)),
        total-map w (fun_of s.path) here,
        each s.path (blanked s.text),
        blanked-length s.text,
        total_of_files ss,
      )

  -- and so by the tree
  pub total_of_tree : (tree : List ℕ) → SoundTree tree → total w (functions_of gate tree) ≤ length tree
  unfolding gate
  total_of_tree tree t = omega (arith, total_of_files (sources tree), texts_fit tree t)
