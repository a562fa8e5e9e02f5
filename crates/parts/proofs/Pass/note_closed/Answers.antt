-- `parts::Pass::note_closed` meets its contract: what is noted tells of a bracket where it is closed and where a body begins behind it, or that none does.
use Rattle.std.proofs.Common.{◌+◌, ◌<◌, ◌≡◌, ◌∙◌, ap, arith, get_or, length, subst, sym}
use Rattle.bodies.specs.declared.Sought.TheVariants.{Unknown}
use Rattle.parts.specs.Filling.{ClosesNote, Telling, closes_tells, telling-put}
use Rattle.parts.specs.Told.{NoteTells}
use Rattle.parts.proofs.Pass.note_closed.Goals as goal

pub loop-k-preserved : goal.loop-k-preserved
loop-k-preserved c =
    let x = c.args.self.now in
    let p = x.part in
    let o = c.requires.order in
    let f = c.requires.finds in
    let k = c.loop-k.k in
    let h : k < length x.owners.items = omega arith in
    let g : k < length x.starts.items = omega (arith, o.both) in
    let e : c.from.result ≡ get_or x.owners.items k 0 = c.from.ensures ∙ ap (λ xs. get_or xs k 0) c.deref.ensures.0 in
    let d = ap (λ xs. get_or xs k 0) c.deref-in-loop-k.ensures.0 in
    let note = subst (λ start. ClosesNote (get_or c.args.found.now k Unknown) start c.closed_note.result) d c.closed_note.ensures in
    subst (Telling p.text.text.now p.from) (sym c.put.ensures)
    (telling-put p.text.text.now p.from _ _ c.loop-k.w c.loop-k.invariant
    (subst (λ i. NoteTells p.text.text.now (p.from + i) c.closed_note.result) (sym e)
    (closes_tells p.text.text.now p.from p.many _ _ _ (o.closed k h) (f.none-there k g) (λ b. f.brace-there k b g) _ note)))
