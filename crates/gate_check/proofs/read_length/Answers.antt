-- `gate_check::read_length` meets its contract: a baseline that is read is UTF-8, and so is an empty one.
use mathlib.Core.Path.{ap, sym, ◌∙◌}
use native.Mathlib.Omega.{arith}
use lib.ListN.{length}
use lib.Seq.{take_all}
use Rattle.text_rules.specs.Utf8.{is_utf8}
use Rattle.gate_rules.specs.Baseline.{entries_of_lines}
use Rattle.in_order.specs.StaleKeys.{entries-read}
use Rattle.gate_check.proofs.Reading.{empty-good, entries_bad}
use Rattle.gate_check.proofs.read_length.Goals as goal

pub returns-then-readable : goal.returns-then-readable
returns-then-readable c =
    let s = c.args.baseline.now in
    let good = sym c.readable.ensures ∙ c.if-readable.true in
    let whole = take_all (length s) s (omega arith) in
    (omega arith, ap is_utf8 whole ∙ good, ap entries_of_lines whole ∙ sym (entries-read s good))

pub returns : goal.returns
returns c =
    let s = c.args.baseline.now in
    (omega arith, empty-good, entries_bad s (sym c.readable.ensures ∙ c.if-readable.false))
