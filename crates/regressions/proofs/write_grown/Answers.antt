-- `regressions::write_grown` meets its contract: the second line, where there is one, is put behind the first.
use mathlib.Core.Path.{subst, sym}
use native.Mathlib.Omega.{arith}
use Rattle.gate_rules.proofs.LoopForms.{listed-append}
use Rattle.functions.specs.Shown.{shown}
use Rattle.listing.specs.Writes.{Writes, writes_then}
use Rattle.regression_sizes.specs.Lines.{both-length, branches_of, lines_of}
use Rattle.regressions.proofs.write_grown.Goals as goal

pub write_branches-requires : goal.write_branches-requires
write_branches-requires c =
    let f = shown c.args.f in
    omega (arith, c.requires, both-length (branches_of f c.args.m) (lines_of f c.args.m))

pub write_lines-requires : goal.write_lines-requires
write_lines-requires c =
    let f = shown c.args.f in
    let first = c.write_branches.ensures in
    omega (arith, c.requires, first.place, first.size, both-length (branches_of f c.args.m) (lines_of f c.args.m))

pub returns : goal.returns
returns c =
    let f = shown c.args.f in
    subst (λ s. Writes s c.args.w.now c.write_lines.new.w) (sym (listed-append (branches_of f c.args.m) (lines_of f c.args.m)))
    (writes_then c.write_branches.ensures c.write_lines.ensures)
