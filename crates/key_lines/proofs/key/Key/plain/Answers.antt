-- The key is plain as its line is.
use Rattle.key_lines.proofs.LineKeys.{plain-own, plain-path}
use Rattle.key_lines.proofs.key.Key.plain.Goals as goal

pub invariant_of-result : goal.invariant_of-result
invariant_of-result c =
    let s = c.args.lines.now in
    let p = c.requires in
    record { path_is = plain-path s c.args.from _ _ _ p; plain_key = λ e. plain-own s c.args.from _ _ _ p }
