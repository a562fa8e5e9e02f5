-- `gate_scan::put_numbered` meets its contract: the test is the definition's, and a record that has room fits.
use Prim.Native.Nat.{◌*◌}
use mathlib.Core.Path.{refl, ◌∙◌}
use native.Mathlib.Omega.{arith}
use Rattle.gate_rules.proofs.RecordLaws.{put_full, put-room}
use Rattle.gate_scan.proofs.put_numbered.Goals as goal

pub returns-then-number-room : goal.returns-then-number-room
returns-then-number-room c =
    let a = c.args in
    let room = c.room.ensures in
    c.put.ensures ∙ put-room a.number (a.number * 32) _ a.lent.now (omega (arith, c.if-number-room.true)) refl

pub returns-else-number-room : goal.returns-else-number-room
returns-else-number-room c =
    let a = c.args in
    let room = c.room.ensures in
    put_full a.number _ a.lent.now (omega (arith, c.if-number-room.false))
