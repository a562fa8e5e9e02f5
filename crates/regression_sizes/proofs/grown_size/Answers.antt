-- `regression_sizes::grown_size` meets its contract: the lines of both kinds are counted, and their bytes.
use native.Mathlib.Omega.{arith}
use Rattle.gate_rules.specs.Check.{more_branches, more_lines}
use Rattle.functions.specs.Shown.{shown}
use Rattle.regression_sizes.specs.Lines.{branches_parts, entry_of, lines-parts, measured-both, measured-line}
use Rattle.regression_sizes.proofs.grown_size.Goals as goal

pub returns : goal.returns
returns c =
    let f = shown c.args.f in
    let m = c.args.m in
    let branches = c.line_size-branches.ensures in
    let lines = c.line_size-lines.ensures in
    let sum = c.plus.ensures in (
      measured-both (measured-line (more_branches f (entry_of m)) c.more_branches-worse.ensures (branches_parts f m) branches.0)
          (measured-line (more_lines f (entry_of m)) c.more_lines-longer.ensures (lines-parts f m) lines.0) sum.count sum.bytes,
      omega arith,
      omega arith,
    )
