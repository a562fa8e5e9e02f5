-- `sums::fill` meets its contract: at each turn the entries before `i` are filled, and those beyond stand as they stood.
use mathlib.Core.Path.{◌≡◌, ap, sym, ◌∙◌}
use mathlib.Core.List.{List}
use native.Mathlib.Omega.{arith}
use lib.ListN.{get_or, set}
use Rattle.text_rules.specs.Bytes.{overwritten}
use Rattle.sums.specs.Sums.{entry, first_entries}
use Rattle.sums.specs.Table.{filled_next, filled_none}
use Rattle.sums.specs.declared.FileSum.{FileSum}
use Rattle.sums.proofs.fill.Goals as goal

pub loop-i-init : goal.loop-i-init
loop-i-init c = sym (filled_none c.args.of.now c.args.t.now)

pub loop-i-preserved : goal.loop-i-preserved
loop-i-preserved c =
    let i = c.loop-i.i in
    let of = c.args.of.now in
    c.add.ensures ∙ ap (λ (s : List FileSum). set s i (entry i (get_or of i 0))) c.loop-i.invariant ∙ sym (filled_next of i c.args.t.now (omega (arith, c.requires.0)))

pub returns : goal.returns
returns c =
    let end : c.loop-i.i ≡ c.args.n = omega (arith, c.loop-i-test.false, c.loop-i.auto.i-end) in
    c.loop-i.invariant ∙ ap (λ k. overwritten (first_entries c.args.of.now k) c.args.t.now) end
