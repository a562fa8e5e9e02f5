-- A bracket with at least as many open inside it as were closed so far is sought on with the others and with those that were opened since.
use Rattle.search.proofs.Counting.{Sought}
use Rattle.search.proofs.count_unmatched.Given as goal

abbrev pub invariant-loop-at : goal.invariant-loop-at
invariant-loop-at l = Sought l.s l.opening l.closing l.from l.closed l.opened l.at
