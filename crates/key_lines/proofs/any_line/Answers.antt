-- What the line has in common with the last key, and where its key stands.
use Rattle.std.proofs.Common.{ap, arith, drop, refl, ◌+◌, ◌∙◌}
use Rattle.text_rules.specs.Search.{bytes_before}
use Rattle.text_rules.specs.BytesLaws.{true_false}
use Rattle.gate_rules.specs.Baseline.{entry_of}
use Rattle.baseline.specs.Reads.{key_of_entry}
use Rattle.key_lines.specs.Keys.{text_of}
use Rattle.key_lines.proofs.LineKeys.{any-stands, found-meets}
use Rattle.key_lines.proofs.any_line.Goals as goal

pub invariant_of-result : goal.invariant_of-result
invariant_of-result c =
    record {
      inside = c.line_key-key.ensures.3;
      meets = found-meets (text_of c.args.last) c.line_at-line.result.bytes.now c.line_key-key.result c.common_with-common.result c.common_with-common.ensures c.line_key-key.ensures.1;
    }

pub returns : goal.returns
returns c =
    let s = c.args.lines.now in
    let from = c.args.from in
    let line = c.line_at-line.ensures in
    let end = from + bytes_before 10 (drop from s) in
    let key = c.line_key-key in (
      record {
        in_line =
            record {
              ends = line.ends;
              inside = line.inside;
              key-is = key.ensures.0 ∙ ap (λ t. key_of_entry (entry_of t)) line.text;
              plain_at = λ e. absurd (true_false _ e key.ensures.2);
            };
        stands = any-stands s c.line_at-line.result.bytes.now from end key.result (omega arith, omega (arith, line.ends, line.inside)) line.text key.ensures.1;
      },
      refl,
    )
