-- `check_texts::write_stale` meets its contract: there is a text exactly if there is a stale entry, and each part is put behind the one before.
use mathlib.Core.Path.{subst, sym, ◌∙◌}
use native.Mathlib.Omega.{arith}
use Rattle.in_order.specs.StaleKeys.{stale_in}
use Rattle.listing.specs.Writes.{Writes, remains_all, remains_none, writes_last, writes_then}
use Rattle.check_texts.specs.Texts.{stale-none, stale-some, stale-text}
use Rattle.check_texts.proofs.write_stale.Goals as goal

pub returns-then-stale-eq0 : goal.returns-then-stale-eq0
returns-then-stale-eq0 c =
    let a = c.args in
    remains_none (remains_all c.requires.room) (stale-none (stale_in a.stale.functions.tree.now a.stale.baseline.lines.now) (sym c.requires.counted ∙ c.if-stale-eq0.true))

pub number-requires : goal.number-requires
number-requires c =
    let a = c.args in
    omega (arith, c.requires.room, stale-some a.stale.size.count (stale_in a.stale.functions.tree.now a.stale.baseline.lines.now) c.requires.counted (omega (arith, c.if-stale-eq0.false)))

pub text-requires : goal.text-requires
text-requires c =
    let a = c.args in
    let first = c.number.ensures in
    omega (arith, c.requires.room, first.place, first.size, stale-some a.stale.size.count (stale_in a.stale.functions.tree.now a.stale.baseline.lines.now) c.requires.counted (omega (arith, c.if-stale-eq0.false)))

pub write_all-requires : goal.write_all-requires
write_all-requires c =
    let a = c.args in
    let first = c.number.ensures in
    let second = c.text.ensures in
    omega (
      arith,
      c.requires.room,
      first.place,
      first.size,
      second.place,
      second.size,
      stale-some a.stale.size.count (stale_in a.stale.functions.tree.now a.stale.baseline.lines.now) c.requires.counted (omega (arith, c.if-stale-eq0.false)),
    )

pub text-requires-2 : goal.text-requires-2
text-requires-2 c =
    let a = c.args in
    let first = c.number.ensures in
    let second = c.text.ensures in
    let third = c.write_all.ensures in
    omega (
      arith,
      c.requires.room,
      first.place,
      first.size,
      second.place,
      second.size,
      third.place,
      third.size,
      stale-some a.stale.size.count (stale_in a.stale.functions.tree.now a.stale.baseline.lines.now) c.requires.counted (omega (arith, c.if-stale-eq0.false)),
    )

pub returns : goal.returns
returns c =
    let a = c.args in
    subst (λ s. Writes s a.w.now c.text-2.new.self)
    (stale-text a.stale.size.count (stale_in a.stale.functions.tree.now a.stale.baseline.lines.now) c.requires.counted (omega (arith, c.if-stale-eq0.false)))
    (writes_then c.number.ensures (writes_then c.text.ensures (writes_then c.write_all.ensures (writes_last c.text-2.ensures))))
