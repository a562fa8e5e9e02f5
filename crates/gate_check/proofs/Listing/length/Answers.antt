-- Both texts are as long as was measured.
use Rattle.std.proofs.Common.{ap, arith, length, ◌∙◌, sym}
use Rattle.gate_rules.specs.Baseline.{entries_of_lines}
use Rattle.gate_rules.specs.Gate.{gate}
use Rattle.gate_rules.specs.Scan.{functions_of}
use Rattle.functions.specs.Shown.{limits_of}
use Rattle.listed_keys.specs.KeyLines.{key_lines}
use Rattle.check_texts.specs.Texts.{measured-length}
use Rattle.gate_check.proofs.Reading.{same_stale}
use Rattle.gate_check.proofs.Listing.length.Goals as goal

pub verdict_length-requires : goal.verdict_length-requires
verdict_length-requires c = omega (arith, c.args.self.worse_short)

pub returns : goal.returns
returns c =
    let l = c.args.self in
    let same = sym (same_stale l.tree l.lines) in
    let bytes =
    measured-length (limits_of l.limits) (entries_of_lines l.entries.lines.now) (functions_of gate l.entries.functions.tree.now) _ _ _ _
    (l.stale_sizes.0 ∙ ap length same) (l.stale_sizes.1 ∙ ap (λ ks. length (key_lines ks)) same) l.worse_count l.worse_bytes in
    omega (arith, c.stale_length.ensures.0, c.verdict_length.ensures.0, bytes)
