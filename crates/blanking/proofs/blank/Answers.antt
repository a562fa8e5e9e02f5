-- `blanking::blank` meets its contract: its two tests are the rules' two refusals, in their order, and past them the whole text is written.
use mathlib.Core.Path.{refl}
use native.Mathlib.Omega.{arith}
use Rattle.blanking.proofs.Whole.{accepted, too_long, too_short}
use Rattle.blanking.proofs.blank.Goals as goal

pub returns-then-text-gt-MAX_TEXT : goal.returns-then-text-gt-MAX_TEXT
returns-then-text-gt-MAX_TEXT c = let a = c.args in
    too_long a.text.now a.output.now _ (omega arith) refl refl refl

pub returns-then-output-text : goal.returns-then-output-text
returns-then-output-text c = let a = c.args in
    too_short a.text.now a.output.now _ (omega arith) (omega arith) refl refl refl

pub returns : goal.returns
returns c = let a = c.args in
    accepted a.text.now a.output.now _ (omega arith) (omega arith) c.blank_all.new.output c.blank_all.ensures refl refl refl
