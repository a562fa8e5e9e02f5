-- Each byte that the first one asks for is read in its turn. The first that fails makes the text ill-formed; behind the last the text goes on.
use Rattle.std.proofs.Common.{◌≡◌, ◌+◌, true, false, get_or, subst, sym, arith}
use Rattle.text_rules.specs.Utf8.{◌to◌, within}
use Rattle.utf8.specs.Awaits.{Character}
use Rattle.utf8.proofs.Wide.{four, fourth-fails, none-begun, second-fails, third-fails, three, two}
use Rattle.utf8.proofs.wide_length.Goals as goal

pub returns-in_err-asked : goal.returns-in_err-asked
returns-in_err-asked c = subst (Character c.args.s.now c.args.at) (sym c.from_residual.ensures) (none-begun c.args.s.now c.args.at c.requires.0 c.in_err-asked.ensures)

pub returns-then-not-within : goal.returns-then-not-within
returns-then-not-within c =
    let a = c.in_ok-asked.asked in
    let t : within (get_or c.args.s.now (c.args.at + 1) 0) (a.low to a.high) ≡ false = cc in
    second-fails _ _ c.requires.0 a c.in_ok-asked.ensures t

pub returns-then-asked-eq1 : goal.returns-then-asked-eq1
returns-then-asked-eq1 c =
    let a = c.in_ok-asked.asked in
    let t2 : within (get_or c.args.s.now (c.args.at + 1) 0) (a.low to a.high) ≡ true = cc in
    two _ _ c.requires.0 a c.in_ok-asked.ensures t2 c.if-asked-eq1.true

pub returns-then-not-within-2 : goal.returns-then-not-within-2
returns-then-not-within-2 c =
    let a = c.in_ok-asked.asked in
    let t2 : within (get_or c.args.s.now (c.args.at + 1) 0) (a.low to a.high) ≡ true = cc in
    let t3 : within (get_or c.args.s.now (c.args.at + 2) 0) (0x80 to 0xBF) ≡ false = cc in
    third-fails _ _ c.requires.0 a c.in_ok-asked.ensures t2 c.if-asked-eq1.false t3

pub returns-then-asked-eq2 : goal.returns-then-asked-eq2
returns-then-asked-eq2 c =
    let a = c.in_ok-asked.asked in
    let t2 : within (get_or c.args.s.now (c.args.at + 1) 0) (a.low to a.high) ≡ true = cc in
    let t3 : within (get_or c.args.s.now (c.args.at + 2) 0) (0x80 to 0xBF) ≡ true = cc in
    three _ _ c.requires.0 a c.in_ok-asked.ensures t2 t3 c.if-asked-eq2.true

pub returns-then-not-within-3 : goal.returns-then-not-within-3
returns-then-not-within-3 c =
    let a = c.in_ok-asked.asked in
    let t2 : within (get_or c.args.s.now (c.args.at + 1) 0) (a.low to a.high) ≡ true = cc in
    let t3 : within (get_or c.args.s.now (c.args.at + 2) 0) (0x80 to 0xBF) ≡ true = cc in
    let t4 : within (get_or c.args.s.now (c.args.at + 3) 0) (0x80 to 0xBF) ≡ false = cc in
    let row = c.in_ok-asked.ensures in
    fourth-fails _ _ c.requires.0 a row t2 t3 (omega (arith, row.asked.some, row.asked.short)) t4

pub returns : goal.returns
returns c =
    let a = c.in_ok-asked.asked in
    let t2 : within (get_or c.args.s.now (c.args.at + 1) 0) (a.low to a.high) ≡ true = cc in
    let t3 : within (get_or c.args.s.now (c.args.at + 2) 0) (0x80 to 0xBF) ≡ true = cc in
    let t4 : within (get_or c.args.s.now (c.args.at + 3) 0) (0x80 to 0xBF) ≡ true = cc in
    let row = c.in_ok-asked.ensures in
    four _ _ c.requires.0 a row t2 t3 (omega (arith, row.asked.some, row.asked.short)) t4
