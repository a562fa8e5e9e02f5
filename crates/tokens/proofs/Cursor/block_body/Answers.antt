-- Each turn is one step of the length; a comment opened inside takes two bytes, so the depth fits.
use Prim.Native.Nat.{◌-◌}
use native.Mathlib.Omega.{arith}
use lib.ListN.{get_or}
use Rattle.tokens.proofs.Bodies.{block_close, block-end, block-less, block_on, block_open, other-first, other-second, pair_there}
use Rattle.tokens.proofs.Cursor.block_body.Goals as goal
use Rattle.tokens.proofs.Cursor.block_body.Goals.{in-47-eq42, in-42-eq47-2, in_default, in_default-2, in_default-3}

pub returns-in-42-eq47 : goal.returns-in-42-eq47
returns-in-42-eq47 c =
    let v = c.loop-at in
    let b = get_or c.args.s.now v.at 0 in
    let w = c.in-42-eq47 in
    let o = other-first v.prev b 47 42 (λ z. omega (arith, z, w.is-0)) in
    let e = block_close c.args.s.now v.at (omega arith) v.depth v.prev o (pair_there v.prev b 42 47 w.is-0 w.is-1) c.if-depth-eq0.true in
    record { place = omega (arith, v.invariant.1, e); inside = omega arith }

pub loop-at-preserved : goal.loop-at-preserved
loop-at-preserved c =
    let s = c.args.s.now in
    let v = c.loop-at in
    let i = v.at in
    let b = get_or s i 0 in
    elim c.match-prev.branch [
      | in-47-eq42 w ↦
          let e = block_open s i (omega arith) v.depth v.prev (pair_there v.prev b 47 42 w.in-47-eq42.is-0 w.in-47-eq42.is-1) in
          rw (w.depth-is, w.prev-is) (omega arith, omega (arith, v.invariant.1, e))
      | in-42-eq47-2 w ↦
          let o = other-first v.prev b 47 42 (λ z. omega (arith, z, w.in-42-eq47.is-0)) in
          let e = block-less s i (omega arith) v.depth v.prev o (pair_there v.prev b 42 47 w.in-42-eq47.is-0 w.in-42-eq47.is-1) (v.depth - 1) (omega (arith, w.if-depth-eq0.false)) in
          rw (w.depth-is, w.prev-is) (omega arith, omega (arith, v.invariant.1, e))
      | in_default w ↦
          let e = block_on s i (omega arith) v.depth v.prev (other-second v.prev b 47 42 w.in_default.is-1.1) (other-first v.prev b 42 47 (λ z. omega (arith, z, w.in_default.is-0))) in
          rw (w.depth-is, w.prev-is) (omega arith, omega (arith, v.invariant.1, e))
      | in_default-2 w ↦
          let e = block_on s i (omega arith) v.depth v.prev (other-first v.prev b 47 42 (λ z. omega (arith, z, w.in_default.is-0))) (other-second v.prev b 42 47 w.in_default.is-1.1) in
          rw (w.depth-is, w.prev-is) (omega arith, omega (arith, v.invariant.1, e))
      | in_default-3 w ↦
          let e = block_on s i (omega arith) v.depth v.prev (other-first v.prev b 47 42 w.in_default.is-0.0.1) (other-first v.prev b 42 47 w.in_default.is-0.1) in
          rw (w.depth-is, w.prev-is) (omega arith, omega (arith, v.invariant.1, e))
    ]

pub returns : goal.returns
returns c = let v = c.loop-at in let e = block-end c.args.s.now v.at (omega arith) v.depth v.prev in record { place = omega (arith, v.invariant.1, e); inside = omega arith }
