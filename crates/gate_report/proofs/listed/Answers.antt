-- `gate_report::listed` meets its contract: the length that is told is the text's, so that 9 is found before anything is written.
use mathlib.Core.Path.{ap, refl, ◌∙◌}
use native.Mathlib.Omega.{arith}
use lib.ListN.{length}
use Rattle.gate_rules.specs.Report.{weight_rows}
use Rattle.gate_rules.proofs.TreeSizes.{tree_branches}
use Rattle.functions.specs.Shown.{limits_of}
use Rattle.report_files.specs.Files.{heaviest_files}
use Rattle.gate_report.specs.Listed.{listed-short}
use Rattle.gate_report.specs.Text.{text-length, text-most}
use Rattle.gate_report.proofs.listed.Goals as goal

pub report_length-requires : goal.report_length-requires
report_length-requires c =
    let fs = c.args.functions in
    let L = limits_of c.args.limits in
    let k = c.count-counts.ensures in (
      omega (arith, k.branches_is, tree_branches fs.tree.now fs.stand.unrefused),
      omega (arith, text-length L fs.tree.now fs.count c.count-counts.result fs.all k, text-most L fs.tree.now fs.records.now fs.stand),
    )

pub returns-then-output-report_length : goal.returns-then-output-report_length
returns-then-output-report_length c =
    let fs = c.args.functions in
    let L = limits_of c.args.limits in
    let size = text-length L fs.tree.now fs.count c.count-counts.result fs.all c.count-counts.ensures in
    let files = ap (λ ws. length (weight_rows ws)) (c.new-heaviest.ensures.1 ∙ ap heaviest_files c.requires) in
    listed-short L fs.tree.now c.args.output.now _ (omega (arith, size, files, c.if-output-report_length.true, c.report_length.ensures)) (refl, refl, refl)

pub write_report-requires : goal.write_report-requires
write_report-requires c =
    let fs = c.args.functions in
    let L = limits_of c.args.limits in
    let heaviest = c.new-heaviest.ensures.1 ∙ ap heaviest_files c.requires in
    let size = text-length L fs.tree.now fs.count c.count-counts.result fs.all c.count-counts.ensures in
    (c.count-counts.ensures, heaviest, omega (arith, size, ap (λ ws. length (weight_rows ws)) heaviest, c.if-output-report_length.false, c.report_length.ensures))

pub overflow_cast-result : goal.overflow_cast-result
overflow_cast-result c =
    let fs = c.args.functions in
    record { fits = omega (arith, c.write_report.ensures.place, text-most (limits_of c.args.limits) fs.tree.now fs.records.now fs.stand) }
