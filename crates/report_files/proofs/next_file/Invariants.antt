-- `report_files::next_file` meets its contract: at each turn the best is the next file among those seen.
use lib.ListN.{take}
use Rattle.text_rules.specs.Selection.{placed_from}
use Rattle.report_files.specs.Files.{FileChosen, IsFile, number_in}
use Rattle.report_files.specs.Weights.{listed}
use Rattle.report_files.proofs.next_file.Given as goal

abbrev pub invariant-loop-k : goal.invariant-loop-k
invariant-loop-k l =
    let tree = l.totals.tree.now in
    IsFile tree l.best × FileChosen tree (number_in tree l.last) (take l.k (placed_from 0 (listed tree))) (number_in tree l.best)
