-- `complexity::told` meets its contract: four bytes are put for each number.
use Rattle.std.proofs.Common.{ap, ◌∙◌, ◌+◌, ◌*◌, ◌≡◌, ◌++◌, arith, drop, length}
use Rattle.text_rules.specs.U32.{u32s_bytes}
use Rattle.words.proofs.Numbers.{bytes-length}
use Rattle.complexity.proofs.told.Goals as goal

pub returns-clause-counts : goal.returns-clause-counts
returns-clause-counts g c =
    let v = c.args.values in
    let many : length v ≡ g.row.N = omega arith in
    let size : 0 + length (u32s_bytes v) ≡ 4 * g.row.N = omega (arith, many, bytes-length v) in
    c.put_u32s.ensures ∙ ap (λ n. u32s_bytes v ++ drop n c.args.counts.now) size
