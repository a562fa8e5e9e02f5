-- `baseline::trimmed_end` meets its contract: only a line that an LF ends, and that has a byte, can lose its last one.
use mathlib.Core.Path.{sym}
use native.Mathlib.Omega.{arith}
use lib.ListN.{length}
use borrow.Author.Tests.{le-ltb, lt-ltb}
use Rattle.text_rules.proofs.LineForms.{trim-cr, trim-none, trim-other}
use Rattle.baseline.proofs.trimmed_end.Goals as goal

pub returns-then-end-s : goal.returns-then-end-s
returns-then-end-s c =
    let a = c.args in
    (rw (le-ltb a.end (length a.s.now) (omega arith)), omega arith, omega arith)

pub returns-then-from-end : goal.returns-then-from-end
returns-then-from-end c =
    let a = c.args in
    (rw (lt-ltb a.end (length a.s.now) (omega arith)) (sym (trim-none a.s.now a.from a.end (omega arith))), omega arith, omega arith)

pub returns-then-s-end-eq-CR : goal.returns-then-s-end-eq-CR
returns-then-s-end-eq-CR c =
    let a = c.args in
    let s = a.s.now in
    (rw (lt-ltb a.end (length s) (omega arith)) (sym (trim-cr s a.from a.end (omega arith) (omega arith) c.if-s-end-eq-CR.true)), omega arith, omega arith)

pub returns : goal.returns
returns c =
    let a = c.args in
    let s = a.s.now in
    (rw (lt-ltb a.end (length s) (omega arith)) (sym (trim-other s a.from a.end (omega arith) (omega arith) c.if-s-end-eq-CR.false)), omega arith, omega arith)
