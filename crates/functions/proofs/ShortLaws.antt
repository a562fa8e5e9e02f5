-- Every function of a tree whose records stand has a short path and a short name.
use Prim.Native.Nat.{ℕ, ◌≤◌, ◌<◌}
use mathlib.Core.List.{List}
use mathlib.Core.Path.{◌≡◌, subst, sym}
use native.Mathlib.Omega.{arith}
use lib.ListN.{length, get_or}
use Rattle.source_rules.specs.Blank.{blanked}
use Rattle.source_rules.proofs.BlankLaws.{blanked-length}
use Rattle.source_rules.specs.TextScan.{TextFun}
use Rattle.source_rules.proofs.TextScanLaws.{Fine}
use Rattle.gate_rules.specs.Gate.{fun_of, gate}
use Rattle.gate_rules.specs.Scan.{functions_of}
use Rattle.gate_rules.specs.Tree.{Source}
use Rattle.gate_rules.specs.Table.{PathFine}
use Rattle.gate_rules.proofs.TreeFunctions.{all_of_tree}
use Rattle.gate_rules.proofs.TreeLaws.{InTree, unrefused}
use Rattle.functions.specs.Short.{Short}
use Rattle.functions.specs.Shown.{Stand, no_fun, shown}
use Rattle.functions.specs.declared.Function.{Function}
use Rattle.functions.proofs.Read.{at_place}

short : (tree : List ℕ) → length tree ≤ 16777216 → (s : Source) → InTree tree s → PathFine s.path → (f : TextFun) → Fine (blanked s.text) f → Short (fun_of s.path f)
unfolding fun_of
short tree h s p g f fine =
    let size = blanked-length s.text in
    let inside = p.text-inside in
    let name = fine.name-inside in
    record { path_short = omega (arith, p.path-short); name_short = omega arith }

pub short_at : {tree records : List ℕ} → Stand tree records → (k : ℕ) → k < length (functions_of gate tree) → Short (get_or (functions_of gate tree) k no_fun)
short_at {tree} {records} st k l =
    let t = unrefused tree st.unrefused in
    at_place Short (functions_of gate tree) (all_of_tree tree Short (short tree t.short) t) no_fun k l

-- the function that was read
pub short_read : {tree records : List ℕ} (f : Function) (k : ℕ) → Stand tree records → shown f ≡ get_or (functions_of gate tree) k no_fun → k < length (functions_of gate tree) → Short (shown f)
short_read {tree} {records} f k st e l = subst Short (sym e) (short_at st k l)
