-- `report_files::Heaviest::rows_length` meets its contract: at each turn the bytes counted, and those of the rows that are left, make the whole.
use Rattle.std.specs.Prelude.{◌+◌, ◌<◌, ◌≡◌, ◌∷◌, drop, get_or}
use Rattle.std.proofs.Common.{add-one, arith, ap, drop-cons, drop_of_length-le, length, length-append, subst}
use Rattle.text_rules.specs.Bytes.{All}
use Rattle.gate_rules.specs.Report.{weight_rows}
use Rattle.gate_rules.specs.Tree.{file_count}
use Rattle.report_files.specs.Files.{file_row}
use Rattle.report_files.specs.Tops.{rows_all, rows_next, rows_none, rows_of}
use Rattle.report_files.specs.Weights.{weight_at}
use Rattle.report_files.proofs.Heaviest.rows_length.Goals as goal

pub loop-k-init : goal.loop-k-init
loop-k-init c =
    let tree = c.args.self.now.totals.now.tree.now in
    let files = c.files-k-items in
    let within = files.ensures.0.within in
    (omega (arith, within.few), omega (arith, ap length (rows_all tree files.result.now), ap (λ ws. length (weight_rows ws)) files.ensures.1), within.inside)

pub overflow_add-bytes : goal.overflow_add-bytes
overflow_add-bytes c = record { fits = omega (arith, c.file_row_length-bytes.ensures.1, c.loop-k.invariant.0) }

pub loop-k-preserved : goal.loop-k-preserved
loop-k-preserved c =
    let tree = c.args.self.now.totals.now.tree.now in
    let ks = c.files-k-items.result.now in
    let i = c.loop-k.k-index in
    let k = get_or ks i 0 in
    let left = drop (i + 1) ks in
    let step : drop i ks ≡ k ∷ left = rw (add-one i) (drop-cons ks i 0 c.loop-k-test.true) in
    let row = c.file_row_length-bytes.ensures in (
      omega (arith, row.1, c.loop-k.invariant.0, ap length step),
      omega (
        arith,
        row.0,
        c.loop-k.invariant.1,
        ap (λ js. length (rows_of tree js)) step,
        ap length (rows_next tree k left),
        length-append (file_row (weight_at tree k)) (rows_of tree left),
      ),
      (subst (All (λ j. j < file_count tree)) step c.loop-k.invariant.2).1,
    )

pub returns : goal.returns
returns c =
    let tree = c.args.self.now.totals.now.tree.now in
    let ks = c.files-k-items.result.now in
    let none = rows_none tree (drop c.loop-k.k-index ks) (ap length (drop_of_length-le ks c.loop-k-test.false)) in
    (omega (arith, c.loop-k.invariant.1, ap length none), omega (arith, c.loop-k.invariant.0))
