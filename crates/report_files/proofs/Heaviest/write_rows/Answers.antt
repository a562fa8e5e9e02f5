-- `report_files::Heaviest::write_rows` meets its contract: at each turn the rows that are left are still to be written.
use Rattle.std.specs.Prelude.{◌+◌, ◌<◌, ◌≡◌, ◌∷◌, drop, get_or}
use Rattle.std.proofs.Common.{add-one, ap, drop-cons, drop_of_length-le, length, subst, sym, ◌∙◌}
use Rattle.text_rules.specs.Bytes.{All}
use Rattle.gate_rules.specs.Report.{weight_rows}
use Rattle.gate_rules.specs.Tree.{file_count}
use Rattle.listing.specs.Writes.{Remains, remains_all, remains_next, remains_none, remains_room}
use Rattle.report_files.specs.Files.{file_row}
use Rattle.report_files.specs.Tops.{rows_all, rows_next, rows_none, rows_of, weights_in}
use Rattle.report_files.specs.Weights.{weight_at}
use Rattle.report_files.proofs.Heaviest.write_rows.Goals as goal

pub loop-k-init : goal.loop-k-init
loop-k-init c =
    let h = c.args.self.now in
    let tree = h.totals.now.tree.now in
    let files = c.files-k-items in
    let all = rows_all tree files.result.now ∙ ap weight_rows (sym files.ensures.1) in (
      subst (λ rest. Remains rest (weight_rows (weights_in h)) c.args.w.now c.args.w.now) (sym all) (remains_all c.requires),
      files.ensures.0.within.inside,
    )

pub write_file_row-requires : goal.write_file_row-requires
write_file_row-requires c =
    let tree = c.args.self.now.totals.now.tree.now in
    let ks = c.files-k-items.result.now in
    let i = c.loop-k.k-index in
    let k = get_or ks i 0 in
    let left = drop (i + 1) ks in
    let step : drop i ks ≡ k ∷ left = rw (add-one i) (drop-cons ks i 0 c.loop-k-test.true) in (
      (subst (All (λ j. j < file_count tree)) step c.loop-k.invariant.1).0,
      remains_room (file_row (weight_at tree k)) (rows_of tree left) c.loop-k.invariant.0 (ap (rows_of tree) step ∙ rows_next tree k left),
    )

pub loop-k-preserved : goal.loop-k-preserved
loop-k-preserved c =
    let tree = c.args.self.now.totals.now.tree.now in
    let ks = c.files-k-items.result.now in
    let i = c.loop-k.k-index in
    let k = get_or ks i 0 in
    let left = drop (i + 1) ks in
    let step : drop i ks ≡ k ∷ left = rw (add-one i) (drop-cons ks i 0 c.loop-k-test.true) in (
      remains_next (rows_of tree left) c.loop-k.invariant.0 (ap (rows_of tree) step ∙ rows_next tree k left) c.write_file_row.ensures,
      (subst (All (λ j. j < file_count tree)) step c.loop-k.invariant.1).1,
    )

pub returns : goal.returns
returns c =
    let tree = c.args.self.now.totals.now.tree.now in
    let ks = c.files-k-items.result.now in
    let none = ap length (drop_of_length-le ks c.loop-k-test.false) in
    remains_none c.loop-k.invariant.0 (rows_none tree (drop c.loop-k.k-index ks) none)
