-- At each turn the brace sought from `at` on, with what is counted there, is the one sought from the start on. The three counts are at most the
-- place, so that they can be counted.
use Rattle.std.proofs.Common.{◌≡◌}
use Rattle.flat.specs.Body.{Counted, body_from}
use Rattle.flat.proofs.body_bytes.Given as goal

abbrev pub invariant-loop-at : goal.invariant-loop-at
invariant-loop-at l = record { counted : Counted l.m l.at; same : body_from l.s l.from l.initial.m ≡ body_from l.s l.at l.m }
