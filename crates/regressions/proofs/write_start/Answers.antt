-- `regressions::write_start` meets its contract: each part is put behind the one before.
use mathlib.Core.Path.{ap, subst, sym}
use mathlib.Core.List.{◌++◌}
use native.Mathlib.Omega.{arith}
use Rattle.text_rules.specs.Bytes.{ascii}
use Rattle.functions.specs.Shown.{shown}
use Rattle.listing.specs.Texts.{located-length, location-is}
use Rattle.listing.specs.Writes.{Writes, writes_then}
use Rattle.regression_sizes.specs.Lines.{started-length}
use Rattle.regressions.proofs.write_start.Goals as goal

pub location-requires : goal.location-requires
location-requires c =
    let f = shown c.args.f in
    omega (arith, c.requires, c.text.ensures.place, c.text.ensures.size, started-length f, located-length f.path f.line f.name)

pub returns : goal.returns
returns c =
    let f = shown c.args.f in
    subst (λ s. Writes s c.args.w.now c.location.new.self) (ap (λ s. ascii "  " ++ s) (sym (location-is f))) (writes_then c.text.ensures c.location.ensures)
