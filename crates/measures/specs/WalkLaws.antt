-- The walk over a part that begins at a body's opening brace, told by places of the whole text.
use Rattle.std.specs.Prelude.{ℕ, ◌+◌, ◌-◌, ◌≡◌, List, drop, take, Option, None, Some}
use Rattle.std.proofs.Common.{ap, sym, ◌∙◌, subst, arith, drop-drop}
use Rattle.std.proofs.Math.Option.{Option as MathOption, none, some}
use Rattle.text_rules.specs.Classes.{brace_close, brace_open}
use Rattle.text_rules.specs.Search.{part}
use Rattle.source_rules.specs.Brackets.{partner}
use Rattle.source_rules.proofs.PlaceLaws.{moved, partner-moved}
use Rattle.measures.specs.Walks.{Measured, MeasuredAt, WalkedFrom, end_of}
use Rattle.measures.specs.declared.Body.{Body}

module _ (s : List ℕ) (at : ℕ) (r : Option Body) (w : WalkedFrom (drop at s) 0 r) where
  abbrev end : MathOption ℕ
  end = partner brace_open brace_close 0 (at + 1) (drop (at + 1) s)

  part_end : moved at (end_of r) ≡ end
  part_end =
      ap (moved at) w.end_is
      ∙ sym (partner-moved at brace_open brace_close 0 1 (drop 1 (drop at s)))
      ∙ ap (partner brace_open brace_close 0 (at + 1)) (drop-drop 1 at s)

  -- the brace has no partner
  pub part-open : r ≡ None → end ≡ none
  part-open e = sym part_end ∙ ap (λ x. moved at (end_of x)) e

  module _ (b : Body) (e : r ≡ Some b) where
    -- the place of its partner
    pub part-closed : end ≡ some (at + b.end)
    part-closed = sym part_end ∙ ap (λ x. moved at (end_of x)) e

    -- the body from the brace through its partner
    pub part-measured : Measured b.measures (part at (at + b.end + 1) s)
    part-measured =
        let n : b.end + 1 - 0 ≡ at + b.end + 1 - at = omega arith in
        subst (λ k. Measured b.measures (take k (drop at s))) n (subst (MeasuredAt (drop at s) 0) e w.measured)
