-- `gate_report::write_report` meets its contract: the parts are written one behind the other.
use mathlib.Core.Path.{ap, subst, sym}
use native.Mathlib.Omega.{arith}
use lib.ListN.{length}
use Rattle.gate_rules.specs.Report.{weight_rows}
use Rattle.gate_rules.proofs.TreeSizes.{tree_branches}
use Rattle.functions.specs.Shown.{limits_of}
use Rattle.listing.specs.Writes.{Writes, writes_last, writes_then}
use Rattle.report_rows.specs.Texts.{head-length}
use Rattle.gate_report.specs.Text.{in_parts, text-length}
use Rattle.gate_report.proofs.write_report.Goals as goal

pub write_head-requires : goal.write_head-requires
write_head-requires c =
    let fs = c.args.functions in
    let n = c.args.counts in
    let size = text-length (limits_of c.args.limits) fs.tree.now fs.count n fs.all c.requires.0 in (
      omega (arith, c.requires.0.branches_is, tree_branches fs.tree.now fs.stand.unrefused),
      omega (arith, c.requires.2, size, head-length fs.count n.branches n.over),
    )

pub write_rows-requires : goal.write_rows-requires
write_rows-requires c =
    let fs = c.args.functions in
    let n = c.args.counts in
    let size = text-length (limits_of c.args.limits) fs.tree.now fs.count n fs.all c.requires.0 in
    let head = c.write_head.ensures in
    omega (arith, c.requires.2, size, head-length fs.count n.branches n.over, head.place, head.size, c.requires.0.bytes_is)

pub text-requires : goal.text-requires
text-requires c =
    let fs = c.args.functions in
    let n = c.args.counts in
    let size = text-length (limits_of c.args.limits) fs.tree.now fs.count n fs.all c.requires.0 in
    let head = c.write_head.ensures in
    let rows = c.write_rows.ensures in
    omega (arith, c.requires.2, size, head-length fs.count n.branches n.over, head.place, head.size, rows.place, rows.size, c.requires.0.bytes_is)

pub write_rows-requires-2 : goal.write_rows-requires-2
write_rows-requires-2 c =
    let fs = c.args.functions in
    let n = c.args.counts in
    let size = text-length (limits_of c.args.limits) fs.tree.now fs.count n fs.all c.requires.0 in
    let head = c.write_head.ensures in
    let rows = c.write_rows.ensures in
    let line = c.text.ensures in
    omega (arith, c.requires.2, size, head-length fs.count n.branches n.over, head.place, head.size, rows.place, rows.size, line.place, line.size, c.requires.0.bytes_is, ap (λ ws. length (weight_rows ws)) c.requires.1)

pub returns : goal.returns
returns c =
    let fs = c.args.functions in
    let L = limits_of c.args.limits in
    subst (λ l. Writes l c.args.w.now c.write_rows-2.new.w) (sym (in_parts L fs.tree.now fs.count c.args.counts fs.all c.requires.0))
    (writes_then c.write_head.ensures (writes_then c.write_rows.ensures (writes_then c.text.ensures
    (writes_last (subst (λ ws. Writes (weight_rows ws) c.text.new.self c.write_rows-2.new.w) c.requires.1 c.write_rows-2.ensures)))))
