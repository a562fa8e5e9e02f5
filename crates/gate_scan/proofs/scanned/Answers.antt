-- `gate_scan::scanned` meets its contract: the texts are blanked first, and what is found in them is written.
use mathlib.Core.Path.{subst, sym, ◌∙◌}
use native.Mathlib.Omega.{arith}
use Rattle.gate_rules.proofs.TreeLaws.{unrefused}
use Rattle.gate_rules.proofs.TreeSizes.{tree-functions, tree-records}
use Rattle.gate_scan.specs.Texts.{all-put, texts_in}
use Rattle.gate_scan.specs.Told.{TextsIn}
use Rattle.gate_scan.proofs.scanned.Goals as goal

pub blank_texts-requires : goal.blank_texts-requires
blank_texts-requires c = ((unrefused c.args.tree.now c.requires.0).laid, c.requires.1)

pub scan_texts-requires : goal.scan_texts-requires
scan_texts-requires c =
    let tree = c.args.tree.now in
    let t = unrefused tree c.requires.0 in
    (t.laid, t.short, subst (TextsIn tree) (sym c.blank_texts.ensures) (texts_in tree c.args.work.now t c.requires.1))

pub returns : goal.returns
returns c =
    let tree = c.args.tree.now in
    let count = c.scan_texts.ensures.0 ∙ tree-records tree c.requires.0 in
    (count, omega (arith, count, tree-functions tree c.requires.0), c.blank_texts.ensures, c.scan_texts.ensures.1 ∙ all-put tree c.args.lent.now)
