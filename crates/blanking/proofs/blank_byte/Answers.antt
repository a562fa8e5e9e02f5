-- `blanking::blank_byte` meets its contract: an LF of a token stays, and every other byte is a space.
use mathlib.Core.Path.{sym}
use Rattle.blanking.proofs.Whole.{put-lf, put-space}
use Rattle.blanking.proofs.blank_byte.Goals as goal

pub returns-then-b-eq-LF : goal.returns-then-b-eq-LF
returns-then-b-eq-LF c = sym (put-lf _ c.if-b-eq-LF.true)

pub returns-else-b-eq-LF : goal.returns-else-b-eq-LF
returns-else-b-eq-LF c = sym (put-space _ c.if-b-eq-LF.false)
