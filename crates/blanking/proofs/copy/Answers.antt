-- `blanking::copy` meets its contract: each byte that it writes leaves the finished output the same.
use Rattle.std.proofs.Common.{ℕ, ◌∙◌, ◌≡◌, ap, arith}
use Rattle.std.proofs.Math.ListN.{length-set}
use Rattle.blanking.specs.Bare.{finished}
use Rattle.blanking.proofs.Whole.{copied}
use Rattle.blanking.proofs.copy.Goals as goal

pub loop-at-preserved : goal.loop-at-preserved
loop-at-preserved c =
    let s = c.args.text.now in
    let l = c.loop-at in
    (length-set l.output l.at _ ∙ l.invariant.0, copied s l.output l.at (omega arith) (omega arith) (c.requires.3 l.at (omega arith) (omega arith)) ∙ l.invariant.1)

pub returns : goal.returns
returns c =
    let a = c.args in
    let e : a.to ≡ c.loop-at.at = omega arith in
    ap (λ (k : ℕ). finished a.text.now c.loop-at.output k k) e ∙ c.loop-at.invariant.1
