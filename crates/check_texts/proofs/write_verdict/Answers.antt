-- `check_texts::write_verdict` meets its contract: it passes exactly if there is no regression line, and else each part is put behind the one before.
use mathlib.Core.Path.{ap, subst, sym, ◌∙◌}
use native.Mathlib.Omega.{arith}
use lib.ListN.{length}
use Rattle.functions.specs.Shown.{limits_of}
use Rattle.listing.specs.Texts.{regression_count-length}
use Rattle.listing.specs.Writes.{Writes, writes_last, writes_then}
use Rattle.regressions.specs.Worse.{worse_in}
use Rattle.check_texts.specs.Texts.{verdict-none, verdict-some, verdict-text}
use Rattle.check_texts.proofs.write_verdict.Goals as goal

pub text-requires : goal.text-requires
text-requires c =
    let a = c.args in
    omega (arith, c.requires.room, ap length (verdict-none (worse_in (limits_of a.limits) a.entries.functions.tree.now a.entries.lines.now) (sym c.requires.counted ∙ c.if-count-eq0.true)))

pub returns-then-count-eq0 : goal.returns-then-count-eq0
returns-then-count-eq0 c =
    let a = c.args in
    subst (λ s. Writes s a.w.now c.text.new.self)
    (sym (verdict-none (worse_in (limits_of a.limits) a.entries.functions.tree.now a.entries.lines.now) (sym c.requires.counted ∙ c.if-count-eq0.true))) c.text.ensures

pub counted-requires : goal.counted-requires
counted-requires c =
    let a = c.args in
    omega (
      arith,
      c.requires.room,
      verdict-some a.count (worse_in (limits_of a.limits) a.entries.functions.tree.now a.entries.lines.now) c.requires.counted (omega (arith, c.if-count-eq0.false)),
      regression_count-length a.count,
    )

pub write_all-requires : goal.write_all-requires
write_all-requires c =
    let a = c.args in
    omega (
      arith,
      c.requires.room,
      c.counted.ensures.place,
      c.counted.ensures.size,
      verdict-some a.count (worse_in (limits_of a.limits) a.entries.functions.tree.now a.entries.lines.now) c.requires.counted (omega (arith, c.if-count-eq0.false)),
      regression_count-length a.count,
    )

pub returns : goal.returns
returns c =
    let a = c.args in
    subst (λ s. Writes s a.w.now c.write_all.new.w)
    (verdict-text a.count (worse_in (limits_of a.limits) a.entries.functions.tree.now a.entries.lines.now) c.requires.counted (omega (arith, c.if-count-eq0.false)))
    (writes_then c.counted.ensures (writes_last c.write_all.ensures))
