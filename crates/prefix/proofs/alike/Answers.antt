-- `prefix::alike` meets its contract: while the bytes before the i-th are the same, the flag holds.
use Prim.Native.Nat.{ℕ, ◌+◌}
use mathlib.Core.Path.{◌≡◌, ap, sym, ◌∙◌}
use native.Mathlib.Omega.{arith}
use lib.ListN.{drop}
use Rattle.prefix.specs.Common.{common, common-next}
use Rattle.prefix.proofs.alike.Goals as goal
use Rattle.prefix.proofs.alike.Goals.{else-s-at, then-s-at}

pub loop-i-init : goal.loop-i-init
loop-i-init c e =
    let a = c.args in
    let none : a.at ≡ a.at + 0 = omega arith in
    let same : common (drop a.at a.s.now) (drop a.at a.t.now) ≡ common (drop (a.at + 0) a.s.now) (drop (a.at + 0) a.t.now) =
    ap (λ (j : ℕ). common (drop j a.s.now) (drop j a.t.now)) none in
    omega (arith, same)

pub loop-i-preserved : goal.loop-i-preserved
loop-i-preserved c e =
    let a = c.args in
    elim c.if-s-at.branch [
      | then-s-at w ↦ let z : ◌≡◌ {A = ℕ} 0 1 = cc in absurd (omega arith)
      | else-s-at w ↦ common-next a.s.now a.t.now a.at c.loop-i.i _ (omega (arith, c.requires.0)) (omega (arith, c.requires.1)) w.if-s-at.false (c.loop-i.invariant (sym w.all-is ∙ e))
    ]

pub returns : goal.returns
returns c e =
    let a = c.args in
    let all : c.loop-i.i ≡ a.n = omega arith in
    c.loop-i.invariant e ∙ ap (λ (j : ℕ). j + common (drop (a.at + j) a.s.now) (drop (a.at + j) a.t.now)) all
