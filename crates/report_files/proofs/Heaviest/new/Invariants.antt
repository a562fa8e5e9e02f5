-- `report_files::Heaviest::new` meets its contract: at each turn the files listed, and those that are left in their order, are all.
use Rattle.std.specs.Prelude.{◌≡◌, length, take}
use Rattle.report_files.specs.Files.{IsFile, Listing, number_in}
use Rattle.report_files.proofs.Heaviest.new.Given as goal

abbrev pub invariant-loop-done : goal.invariant-loop-done
invariant-loop-done l =
    let tree = l.totals.tree.now in
    IsFile tree l.last × Listing tree l.done (number_in tree l.last) (take l.done l.files) × (length l.files ≡ 10)
