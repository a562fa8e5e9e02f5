-- What is kept of searches in the bytes is told of the same bytes.
use Rattle.std.proofs.Common.{◌∙◌, subst, sym}
use Rattle.memo.specs.Memo.{Recalls}
use Rattle.signatures.proofs.Notes.lent_again.Goals as goal

pub invariant_of-result : goal.invariant_of-result
invariant_of-result c =
    let n = c.args.self in
    record { recalls = subst (λ s. Recalls s n.kept) (sym (c.lent_again.ensures ∙ c.requires)) n.recalls }
