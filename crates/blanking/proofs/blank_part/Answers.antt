-- `blanking::blank_part` meets its contract: the part lent is exactly as long as its text, so nothing of it stays.
use Prim.Native.Nat.{◌-◌, ℕ}
use mathlib.Core.Path.{◌∙◌, ap}
use mathlib.Core.List.{List, ◌++◌}
use native.Mathlib.Omega.{arith}
use lib.ListN.{drop, take}
use Rattle.blanking.proofs.Whole.{part-written}
use Rattle.blanking.proofs.blank_part.Goals as goal

pub returns : goal.returns
returns c = let a = c.args in
    ap (λ (l : List ℕ). take a.a a.work.now ++ (l ++ drop (a.e - a.a) (drop a.a a.work.now))) c.blank_all.ensures
    ∙ part-written a.tree.now a.work.now a.a a.e (omega arith) (omega arith) (omega arith)
