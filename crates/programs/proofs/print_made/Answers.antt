-- `programs::print_made` meets its contract: each of the bytes lent is 0.
use Rattle.std.proofs.Common.{refl}
use Rattle.programs.proofs.print_made.Goals as goal

pub make-n-requires : goal.make-n-requires
make-n-requires g c = c.requires.lends _ _ _ refl refl refl
