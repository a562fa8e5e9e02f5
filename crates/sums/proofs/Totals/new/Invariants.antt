-- `sums::Totals::new` meets its contract: after k records each place holds its file's sum over them.
use Rattle.sums.proofs.Adding.{Added}
use Rattle.sums.proofs.Totals.new.Given as goal

abbrev pub invariant-loop-k : goal.invariant-loop-k
invariant-loop-k l = Added l.functions.tree.now l.k l.of
