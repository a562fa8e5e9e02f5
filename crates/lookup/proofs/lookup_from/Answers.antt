-- `lookup::lookup_from` meets its contract: what is found in the lines behind, then what is found in the rest, is what is found in all.
use mathlib.Core.Path.{ap, subst, sym, ◌∙◌}
use native.Mathlib.Omega.{arith}
use lib.ListN.{drop, length}
use Rattle.baseline.specs.LinesOf.{LineAt}
use Rattle.baseline.specs.Ordered.{Unfalling, keys_in}
use Rattle.baseline.specs.Reads.{key_bytes}
use Rattle.lookup.specs.Halves.{later}
use Rattle.lookup.proofs.Finds.{found-end, found-next, found_from, or_later}
use Rattle.lookup.proofs.Halving.{found_below, found-beyond, next-rises, rest-rises}
use Rattle.lookup.proofs.lookup_from.Goals as goal

pub loop-line-init : goal.loop-line-init
loop-line-init c =
    let a = c.args in
    let s = a.baseline.now in
    let k = key_bytes a.sought in
    let lines = c.into_iter-line-iterator.ensures.into_iter_gives in
    let text = ap (λ i. i.text.now) lines ∙ c.from_place-line-items.ensures.0 in
    let at = sym (ap (λ i. i.at) lines ∙ c.from_place-line-items.ensures.1) in (
      text,
      ap (found_from _ k s) (sym at) ∙ found_below s k a.place c.requires.1,
      subst (λ n. Unfalling (keys_in (drop n s))) at (rest-rises s k a.place c.requires.1 c.requires.0),
    )

pub returns-then-is_beyond : goal.returns-then-is_beyond
returns-then-is_beyond c =
    let a = c.args in
    let at = c.loop-line.line-iterator.at in
    let l = c.in-Some.line in
    let h = subst (λ t. LineAt t at l) c.loop-line.invariant.0 c.in-Some.ensures.steps.1 in
    sym (found-beyond a.baseline.now (key_bytes a.sought) at l h c.loop-line.invariant.2 c.loop-line.found (sym c.is_beyond.ensures ∙ c.if-is_beyond.true))
    ∙ c.loop-line.invariant.1

pub loop-line-preserved : goal.loop-line-preserved
loop-line-preserved c =
    let a = c.args in
    let s = a.baseline.now in
    let k = key_bytes a.sought in
    let at = c.loop-line.line-iterator.at in
    let l = c.in-Some.line in
    let step = c.in-Some.ensures.steps in
    let h = subst (λ t. LineAt t at l) c.loop-line.invariant.0 step.1 in
    let found = c.or-found.ensures ∙ or_later c.loop-line.found c.in_line.result ∙ ap (later c.loop-line.found) c.in_line.ensures in (
      step.2 ∙ c.loop-line.invariant.0,
      ap (found_from c.or-found.result k s) step.3
          ∙ ap (λ f. found_from f k s l.next) found
          ∙ found-next c.loop-line.found k s at l h
          ∙ c.loop-line.invariant.1,
      subst (λ n. Unfalling (keys_in (drop n s))) (sym step.3) (next-rises s k at l h c.loop-line.invariant.2),
    )

pub returns : goal.returns
returns c =
    let a = c.args in
    sym (found-end c.loop-line.found (key_bytes a.sought) a.baseline.now c.loop-line.line-iterator.at (omega (arith, c.in-None.ensures.steps, ap length c.loop-line.invariant.0))) ∙ c.loop-line.invariant.1
