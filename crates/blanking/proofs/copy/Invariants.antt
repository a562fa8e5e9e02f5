-- `blanking::copy` meets its contract: each byte that it writes leaves the finished output the same.
use Rattle.std.proofs.Common.{◌≡◌, length}
use Rattle.blanking.specs.Bare.{finished}
use Rattle.blanking.proofs.copy.Given as goal

abbrev pub invariant-loop-at : goal.invariant-loop-at
invariant-loop-at l = (length l.output ≡ length l.initial.output) × (finished l.text l.output l.at l.at ≡ finished l.text l.initial.output l.from l.from)
