-- `Entries::accepted` meets its contract: both ways of looking up answer the same.
use mathlib.Core.Path.{ap, sym, ◌∙◌}
use native.Mathlib.Omega.{arith}
use Rattle.gate_rules.specs.Baseline.{entries_of_lines, lookup}
use Rattle.gate_rules.specs.Functions.{Fun, key}
use Rattle.baseline.specs.Reads.{accepted_by}
use Rattle.regressions.proofs.entries.Entries.accepted.Goals as goal

pub accepted_at-requires : goal.accepted_at-requires
accepted_at-requires c =
    let a = c.args in
    (a.self.filled c.in-Some.places c.in-Some.is).inside a.k (omega (arith, a.self.functions.all, c.requires.inside))

pub returns-in-Some : goal.returns-in-Some
returns-in-Some c =
    let a = c.args in
    c.accepted_at.ensures
    ∙ ap accepted_by (sym (ap (λ (f : Fun). lookup (key f) (entries_of_lines a.self.lines.now)) c.requires.read
    ∙ (a.self.filled c.in-Some.places c.in-Some.is).finds a.k (omega (arith, a.self.functions.all, c.requires.inside))))
