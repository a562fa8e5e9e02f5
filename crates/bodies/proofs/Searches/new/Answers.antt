-- `bodies::Searches::new` meets its contract: nothing is told in it.
use Rattle.bodies.specs.Numbers.{fresh, unknown-each, unknown_room}
use Rattle.bodies.proofs.Searches.new.Goals as goal

pub returns : goal.returns
returns c = fresh _ unknown_room unknown-each
