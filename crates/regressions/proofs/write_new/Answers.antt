-- `regressions::write_new` meets its contract: each part of the line is put behind the one before, where there is a line.
use mathlib.Core.Path.{ap, subst, sym, ◌∙◌}
use native.Mathlib.Omega.{arith}
use lib.ListN.{length}
use Rattle.text_rules.specs.Bytes.{ascii}
use Rattle.functions.specs.Shown.{limits_of, shown}
use Rattle.listing.specs.Writes.{Writes, remains_all, remains_none, writes_last, writes_then}
use Rattle.regression_sizes.specs.Lines.{new_line, new_none, nothing_listed, pair-length, started-length, two-length}
use Rattle.regressions.proofs.write_new.Goals as goal

pub write_start-requires : goal.write_start-requires
write_start-requires c =
    let f = shown c.args.f in
    let line = new_line (limits_of c.args.limits) f (sym c.is_over.ensures ∙ c.if-is_over.true) in
    omega (arith, c.requires, ap length line, two-length f, started-length f)

pub write_pair-requires : goal.write_pair-requires
write_pair-requires c =
    let f = shown c.args.f in
    let line = new_line (limits_of c.args.limits) f (sym c.is_over.ensures ∙ c.if-is_over.true) in
    let start = c.write_start.ensures in
    omega (arith, c.requires, ap length line, two-length f, started-length f, start.place, start.size, pair-length (ascii " is new and over: cyclomatic ") f.cyclomatic (ascii " lines ") f.lines)

pub write_pair-requires-then-is_over : goal.write_pair-requires-then-is_over
write_pair-requires-then-is_over c =
    let f = shown c.args.f in
    let line = new_line (limits_of c.args.limits) f (sym c.is_over.ensures ∙ c.if-is_over.true) in
    let start = c.write_start.ensures in
    let first = c.write_pair.ensures in
    omega (
      arith,
      c.requires,
      ap length line,
      two-length f,
      started-length f,
      start.place,
      start.size,
      pair-length (ascii " is new and over: cyclomatic ") f.cyclomatic (ascii " lines ") f.lines,
      first.place,
      first.size,
      pair-length (ascii " nesting ") f.nesting (ascii " params ") f.params,
    )

pub text-requires : goal.text-requires
text-requires c =
    let f = shown c.args.f in
    let line = new_line (limits_of c.args.limits) f (sym c.is_over.ensures ∙ c.if-is_over.true) in
    let start = c.write_start.ensures in
    let first = c.write_pair.ensures in
    let second = c.write_pair-then-is_over.ensures in
    omega (
      arith,
      c.requires,
      ap length line,
      two-length f,
      started-length f,
      start.place,
      start.size,
      pair-length (ascii " is new and over: cyclomatic ") f.cyclomatic (ascii " lines ") f.lines,
      first.place,
      first.size,
      pair-length (ascii " nesting ") f.nesting (ascii " params ") f.params,
      second.place,
      second.size,
    )

pub returns-then-is_over : goal.returns-then-is_over
returns-then-is_over c =
    let f = shown c.args.f in
    let line = new_line (limits_of c.args.limits) f (sym c.is_over.ensures ∙ c.if-is_over.true) in
    subst (λ s. Writes s c.args.w.now c.text.new.self) line
    (writes_then c.write_start.ensures (writes_then c.write_pair.ensures (writes_then c.write_pair-then-is_over.ensures (writes_last c.text.ensures))))

pub returns-else-is_over : goal.returns-else-is_over
returns-else-is_over c =
    remains_none (remains_all c.requires) (nothing_listed (new_none (limits_of c.args.limits) (shown c.args.f) (sym c.is_over.ensures ∙ c.if-is_over.false)))
