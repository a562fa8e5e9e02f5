-- `complexity_update::put_answer` meets its contract: what it puts is what the definition prints and writes.
use mathlib.Core.Path.{refl, ◌∙◌}
use native.Mathlib.Omega.{arith}
use Rattle.answers.proofs.NumbersLaws.{number_least}
use Rattle.complexity_update.specs.Answered.{closing-file, closing-line, file-counts, long-file, long-line, no-file, refused-file, refused-printed}
use Rattle.complexity_update.proofs.put_answer.Goals as goal

pub returns-then-tree-gt-MOST : goal.returns-then-tree-gt-MOST
returns-then-tree-gt-MOST c =
    let a = c.args in
    let e = c.refused.ensures in
    let f = no-file c.refused.result.file c.refused.new.line e.file in
    let g = no-file c.refused.result.file a.output.now e.file in
    (g.0, g.1 ∙ long-file a.tree.now c.if-tree-gt-MOST.true, (e.line.0, e.line.1 ∙ long-line a.tree.now c.if-tree-gt-MOST.true))

pub returns-in-Err : goal.returns-in-Err
returns-in-Err c =
    let a = c.args in
    let e = c.refused-in-Err.ensures in
    let some = number_least c.in-Err.refusal in
    let g = no-file c.refused-in-Err.result.file c.update.new.output e.file in (
      g.0,
      g.1 ∙ refused-file a.tree.now a.work.now a.lent.now a.output.now c.requires.0 c.requires.1 c.requires.2 c.if-tree-gt-MOST.false _ _ _ _ c.in-Err.ensures some,
      (e.line.0, e.line.1 ∙ refused-printed a.tree.now a.work.now a.lent.now a.output.now c.requires.0 c.requires.1 c.requires.2 c.if-tree-gt-MOST.false _ _ _ _ c.in-Err.ensures some),
    )

pub returns-in-Ok : goal.returns-in-Ok
returns-in-Ok c =
    let a = c.args in
    let e = c.put_closing.ensures in (
      file-counts a.tree.now a.work.now a.lent.now a.output.now c.requires.0 c.requires.1 c.requires.2 c.if-tree-gt-MOST.false _ _ _ _ c.in-Ok.ensures,
      closing-file a.tree.now a.work.now a.lent.now a.output.now c.requires.0 c.requires.1 c.requires.2 c.if-tree-gt-MOST.false _ _ _ _ c.in-Ok.ensures refl,
      (e.0, e.1 ∙ closing-line a.tree.now a.work.now a.lent.now a.output.now c.requires.0 c.requires.1 c.requires.2 c.if-tree-gt-MOST.false _ _ _ _ c.in-Ok.ensures refl),
    )
