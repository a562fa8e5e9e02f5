-- `report_rows::write_report_row` meets its contract: each part is put behind the one before.
use Rattle.std.proofs.Common.{arith, subst, sym}
use Rattle.functions.specs.Shown.{shown}
use Rattle.listing.specs.Texts.{located-length}
use Rattle.listing.specs.Writes.{Writes, writes_last, writes_then}
use Rattle.report_rows.specs.Texts.{measured-length, row_is, row-size}
use Rattle.report_rows.proofs.write_report_row.Goals as goal

pub write_measured-requires : goal.write_measured-requires
write_measured-requires c =
    let f = shown c.args.f in
    omega (arith, c.requires, row-size f, measured-length f, located-length f.path f.line f.name)

pub location-requires : goal.location-requires
location-requires c =
    let f = shown c.args.f in
    omega (arith, row-size f, measured-length f, located-length f.path f.line f.name)

pub text-requires : goal.text-requires
text-requires c =
    let f = shown c.args.f in
    omega (arith, row-size f, measured-length f, located-length f.path f.line f.name)

pub returns : goal.returns
returns c =
    let a = c.args in
    subst (λ s. Writes s a.w.now c.text.new.self) (sym (row_is (shown a.f)))
    (writes_then c.write_measured.ensures (writes_then c.location.ensures (writes_last c.text.ensures)))
