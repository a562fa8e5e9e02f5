-- The listing is as long as was measured, so it is written exactly if it fits.
use Rattle.std.proofs.Common.{ap, ap₂, arith, length, ◌∙◌}
use Rattle.functions.specs.Shown.{limits_of}
use Rattle.functions.specs.declared.Functions.{Functions}
use Rattle.baseline.specs.declared.Baseline.{Baseline}
use Rattle.gate_check.specs.Checks.{listing_in}
use Rattle.gate_check.proofs.Reading.{listing-small}
use Rattle.gate_check.proofs.told.Goals as goal

pub overflow_cast-result : goal.overflow_cast-result
overflow_cast-result c =
    let a = c.args in
    let L = limits_of a.limits in
    let here = c.entries_of-entries.ensures in
    let measured = c.measure-stale.ensures in
    record {
      fits = omega (
        arith,
        c.put-written.ensures.end,
        ap₂ (λ (f : Functions) s. length (listing_in L f.tree.now s)) (here.functions ∙ measured.functions) (here.lines ∙ ap (λ (b : Baseline). b.lines.now) measured.baseline),
        listing-small L a.baseline.lines.now a.functions.stand c.requires a.baseline.short,
      );
    }
