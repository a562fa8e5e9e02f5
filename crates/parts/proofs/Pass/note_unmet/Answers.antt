-- `parts::Pass::note_unmet` meets its contract: what is noted tells of brackets without a partner.
use Rattle.std.proofs.Common.{◌+◌, ◌<◌, ◌≡◌, ◌∙◌, ap, arith, get_or, length, subst, sym}
use Rattle.parts.specs.Filling.{Telling, telling-put}
use Rattle.parts.specs.Told.{NoBody, no_end}
use Rattle.windows.specs.declared.Note.TheVariants.{Broken}
use Rattle.parts.proofs.Pass.note_unmet.Goals as goal

pub loop-k-preserved : goal.loop-k-preserved
loop-k-preserved c =
    let p = c.args.self.now.part in
    let k = c.loop-k.k in
    let opens = c.args.self.now.opens.items in
    let l : k < length opens = omega arith in
    let e : c.from.result ≡ get_or opens k 0 = c.from.ensures ∙ ap (λ xs. get_or xs k 0) c.deref.ensures.0 in
    subst (Telling p.text.text.now p.from) (sym c.put.ensures)
    (telling-put p.text.text.now p.from _ Broken c.loop-k.w c.loop-k.invariant (subst (λ i. NoBody p.text.text.now (p.from + i)) (sym e) (no_end (c.requires.unmet.nowhere k l))))
