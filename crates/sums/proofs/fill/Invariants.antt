-- `sums::fill` meets its contract: at each turn the entries before `i` are filled, and those beyond stand as they stood.
use Rattle.std.proofs.Common.{◌≡◌}
use Rattle.text_rules.specs.Bytes.{overwritten}
use Rattle.sums.specs.Sums.{first_entries}
use Rattle.sums.proofs.fill.Given as goal

abbrev pub invariant-loop-i : goal.invariant-loop-i
invariant-loop-i l = l.t ≡ overwritten (first_entries l.of l.i) l.initial.t
