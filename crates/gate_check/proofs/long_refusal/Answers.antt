-- `gate_check::long_refusal` meets its contract: a tree's own refusals are those from 1 to 4.
use native.Mathlib.Omega.{arith}
use Rattle.gate_rules.proofs.BufferLaws.{refusal-most}
use Rattle.gate_rules.specs.Tree.{tree_refusal}
use Rattle.gate_check.proofs.Reading.{or_else-most}
use Rattle.gate_check.proofs.long_refusal.Goals as goal

pub returns-then-room-tree-clause-most : goal.returns-then-room-tree-clause-most
returns-then-room-tree-clause-most c =
    let tree = c.args.tree.now in
    omega (arith, c.refusal_or.ensures, or_else-most (tree_refusal tree) 5 7 (omega (arith, refusal-most tree)) (omega arith))

pub returns-clause-most : goal.returns-clause-most
returns-clause-most c =
    let tree = c.args.tree.now in
    omega (arith, c.refusal_or-2.ensures, or_else-most (tree_refusal tree) 7 7 (omega (arith, refusal-most tree)) (omega arith))
