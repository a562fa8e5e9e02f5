-- The key is the beginning of its line and goes past the path.
use Rattle.std.proofs.Common.{false, refl}
use Rattle.text_rules.specs.BytesLaws.{true_false}
use Rattle.key_lines.proofs.LineKeys.{read-path}
use Rattle.key_lines.proofs.line_key.Goals as goal

pub invariant_of-result : goal.invariant_of-result
invariant_of-result c =
    let read = read-path c.key_with.result c.args.line.now c.args.path c.key_with.ensures.1 c.requires.0 c.in_ok-bytes.bytes c.in_ok-bytes.was in
    record {
      path_is = read.1;
      plain_key = λ e. absurd (true_false false e refl);
    }
