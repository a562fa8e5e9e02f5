-- `memo::Kept::move_all` meets its contract: at each turn the searches before the index have come to the place.
use Rattle.memo.specs.Moving.{Between}
use Rattle.memo.proofs.Kept.move_all.Given as goal

abbrev pub invariant-loop-search : goal.invariant-loop-search
invariant-loop-search l = Between l.text.text.now l.from l.to l.search-index l.search-items
