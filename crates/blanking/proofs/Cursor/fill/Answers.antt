-- `blanking::Cursor::fill` meets its contract: each byte that it writes leaves the finished output the same.
use Prim.Native.Nat.{◌+◌, ℕ}
use mathlib.Core.Path.{◌∙◌, ◌≡◌, ap, refl}
use native.Mathlib.Omega.{arith}
use lib.ListN.{set}
use Rattle.blanking.specs.Bare.{finished}
use Rattle.blanking.proofs.Whole.{filled}
use Rattle.blanking.proofs.Cursor.fill.Goals as goal

pub loop-at-preserved : goal.loop-at-preserved
loop-at-preserved c = let a = c.args in
    let s = a.text.now in
    let e = a.end in
    let i = c.loop-at.at in
    ap (λ (v : ℕ). finished s (set c.loop-at.output i v) (i + 1) e) c.blank_byte.ensures ∙ filled s c.loop-at.output i (omega arith) (omega arith) e (omega arith) ∙ c.loop-at.invariant

pub returns : goal.returns
returns c = let a = c.args in
    let e : a.end ≡ c.loop-at.at = omega arith in
    (refl, ap (λ (k : ℕ). finished a.text.now c.loop-at.output k a.end) e ∙ c.loop-at.invariant)
