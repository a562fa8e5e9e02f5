-- `memo::Kept::new` meets its contract: no index is used, and each of the searches is none.
use native.Mathlib.Omega.{arith}
use mathlib.Core.Path.{refl}
use Rattle.memo.specs.Memo.{all_nothing}
use Rattle.memo.proofs.Kept.new.Goals as goal

pub returns-clause-forgotten : goal.returns-clause-forgotten
returns-clause-forgotten c = record { place = refl; nothing = λ k d l. absurd (omega (arith, l)) }

pub returns-clause-empty : goal.returns-clause-empty
returns-clause-empty c = all_nothing 64
