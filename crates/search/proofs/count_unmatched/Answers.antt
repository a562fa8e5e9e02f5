-- Each byte is one of the four ways of a step.
use Rattle.std.proofs.Common.{arith}
use Rattle.search.proofs.Counting.{closes_none, closes_one, opens, passes_other}
use Rattle.search.proofs.count_unmatched.Goals as goal
use Rattle.search.proofs.count_unmatched.Goals.{then-b-opening, else-b-opening+then-b-closing+in-Some, else-b-opening+then-b-closing+in-None, else-b-opening+else-b-closing}

pub loop-at-preserved : goal.loop-at-preserved
loop-at-preserved c =
    let a = c.args in
    let l = c.loop-at in
    let d = c.requires.0 in
    elim c.if-b-opening.branch [
      | then-b-opening w ↦ rw (w.closed-is, w.opened-is) (opens a.s.now _ _ a.from _ _ l.at d l.invariant (omega arith) (omega arith) w.if-b-opening.true)
      | else-b-opening+then-b-closing+in-Some w ↦
          rw (w.closed-is, w.opened-is)
          (closes_one a.s.now _ _ a.from _ _ l.at d l.invariant (omega arith) (omega arith) w.in-Some.left w.if-b-closing.true (omega arith))
      | else-b-opening+then-b-closing+in-None w ↦
          rw (w.closed-is, w.opened-is) (closes_none a.s.now _ _ a.from _ _ l.at d l.invariant (omega arith) (omega arith) w.if-b-closing.true (omega arith))
      | else-b-opening+else-b-closing w ↦
          rw (w.closed-is, w.opened-is) (passes_other a.s.now _ _ a.from _ _ l.at d l.invariant (omega arith) (omega arith) w.if-b-opening.false w.if-b-closing.false)
    ]
