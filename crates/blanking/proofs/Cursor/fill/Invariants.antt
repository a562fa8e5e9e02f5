-- Each byte that is written leaves the finished output the same.
use mathlib.Core.Path.{◌≡◌}
use Rattle.blanking.specs.Bare.{finished}
use Rattle.blanking.proofs.Cursor.fill.Given as goal

abbrev pub invariant-loop-at : goal.invariant-loop-at
invariant-loop-at l = finished l.text l.output l.at l.end ≡ finished l.text l.initial.output l.fn.self.at l.end
