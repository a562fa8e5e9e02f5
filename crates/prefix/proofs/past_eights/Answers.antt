-- `prefix::past_eights` meets its contract: what the texts have in common is what was passed, and what they have from there on.
use Prim.Native.Nat.{ℕ, ◌+◌, ◌*◌, ◌/◌}
use mathlib.Core.Path.{◌≡◌, ap, subst}
use native.Mathlib.Omega.{arith}
use lib.ListN.{drop}
use Rattle.prefix.specs.Common.{common}
use Rattle.prefix.proofs.past_eights.Goals as goal

pub alike-requires : goal.alike-requires
alike-requires c =
    let p = c.requires in
    (omega (arith, p), omega (arith, p))

pub loop-k-preserved : goal.loop-k-preserved
loop-k-preserved c =
    let s = c.args.s.now in
    let t = c.args.t.now in
    let k = c.loop-k.k in
    let next : 8 * k + 8 ≡ 8 * (k + 1) = omega arith in
    let same : common (drop (8 * k + 8) s) (drop (8 * k + 8) t) ≡ common (drop (8 * (k + 1)) s) (drop (8 * (k + 1)) t) = ap (λ (j : ℕ). common (drop j s) (drop j t)) next in
    omega (arith, c.loop-k.invariant, c.alike.ensures c.if-not-alike.false, same)

pub returns : goal.returns
returns c =
    let s = c.args.s.now in
    let t = c.args.t.now in
    let all : c.loop-k.k ≡ c.args.most / 8 = omega arith in
    (omega arith, subst (λ (k : ℕ). 8 * k + common (drop (8 * k) s) (drop (8 * k) t) ≡ common s t) all c.loop-k.invariant)
