-- The gate's scan keeps the laws that the promises rest on.
use Rattle.std.specs.Prelude.{ℕ, ◌≤◌, List, length}
use Rattle.std.proofs.Common.{arith}
use Rattle.text_rules.specs.Bytes.{total}
use Rattle.text_rules.specs.Sizes.{max_tree}
use Rattle.source_rules.specs.Blank.{blanked}
use Rattle.source_rules.proofs.BlankLaws.{blanked-length}
use Rattle.source_rules.specs.TextScan.{TextFun, functions}
use Rattle.source_rules.proofs.TextScanLaws.{Fine, names_fit_lem}
use Rattle.gate_rules.proofs.ConditionLaws.{uncommented}
use Rattle.gate_rules.specs.Functions.{Limits, gate_limits}
use Rattle.gate_rules.specs.Gate.{fun_of, gate}
use Rattle.gate_rules.proofs.NeverWorseProof.{never-worse}
use Rattle.gate_rules.specs.Promises.{NeverWorse, Settles}
use Rattle.gate_rules.specs.Scan.{ScanLaws, WellMade, functions_of}
use Rattle.gate_rules.proofs.SettlesProof.{settles}
use Rattle.gate_rules.specs.Table.{PathFine}
use Rattle.gate_rules.specs.Tree.{Source}
use Rattle.gate_rules.proofs.TreeFunctions.{all_of_tree, total_of_tree}
use Rattle.gate_rules.proofs.TreeLaws.{InTree, SoundTree, unrefused}

well-made : (tree : List ℕ) → length tree ≤ max_tree → (s : Source) → InTree tree s → PathFine s.path → (f : TextFun) → Fine (blanked s.text) f → WellMade (fun_of s.path f)
unfolding fun_of
well-made tree short s p g f h =
    let size = blanked-length s.text in
    let inside = p.text-inside in
    let c = h.cyclomatic-most in
    let l = h.lines-most in
    record {
      path-tab = g.no-tab;
      path-LF = g.no-LF;
      path-starts = (uncommented s.path).1 g.no-hash;
      path-utf8 = g.utf8;
      path-short = p.path-short;
      name-plain = h.name-plain;
      cyclomatic_u32 = omega arith;
      lines_u32 = omega arith;
    }

-- the names of all functions of a tree are together no longer than the tree
names_of : (path text : List ℕ) → total (λ f. length (fun_of path f).name) (functions text) ≤ length text
unfolding fun_of
names_of path text = names_fit_lem text

pub tree-names : (tree : List ℕ) → SoundTree tree → total (λ f. length f.name) (functions_of gate tree) ≤ length tree
tree-names = total_of_tree (λ f. length f.name) names_of

pub gate_laws : ScanLaws gate
unfolding gate
gate_laws =
    record {
      well_made = λ tree a.
          let t = unrefused tree a.unrefused in
          all_of_tree tree WellMade (well-made tree t.short) t;
      names_fit = λ tree a.
          let t = unrefused tree a.unrefused in
          omega (arith, tree-names tree t, t.short);
    }

-- DEMAND 3, whole, for whatever limits
pub never-worse-gate : (L : Limits) → NeverWorse gate L
never-worse-gate L = never-worse L gate gate_laws

pub settles-gate : (L : Limits) → Settles gate L
settles-gate L = settles L gate gate_laws

-- and for the gate's own
pub demand-3 : NeverWorse gate gate_limits × Settles gate gate_limits
demand-3 = (never-worse-gate gate_limits, settles-gate gate_limits)
