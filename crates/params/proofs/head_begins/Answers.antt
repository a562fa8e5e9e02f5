-- Each byte stops the head, is left out of it, or is its next.
use Rattle.std.proofs.Common.{arith, ◌≡◌, ◌≢◌, ◌||◌, true, false, get_or, drop, ap, sym, ◌∙◌, ◌+◌}
use Rattle.std.proofs.lemmas.Bool.Decides.{nat_tests}
use lib.Dec.{eqb}
use Rattle.text_rules.specs.Classes.{ampersand, space}
use Rattle.text_rules.specs.Search.{starts_with}
use Rattle.params.specs.Head.{head}
use Rattle.params.proofs.List.{head-comma, head-keeps, head-leaves, told_end}
use Rattle.text_rules.proofs.TextSteps.{begins-end, begins-more, begins-none, begins-stop}
use Rattle.params.proofs.head_begins.Goals as goal
use Rattle.params.proofs.head_begins.Goals.{in-38, in_default+else-kept-word}

pub returns-then-matched-word : goal.returns-then-matched-word
returns-then-matched-word c =
    let v = c.loop-b in
    sym (begins-end c.args.word.now v.matched (head (drop v.b-index c.args.s.now)) (omega arith)) ∙ v.invariant.left

pub returns-in-44 : goal.returns-in-44
returns-in-44 c =
    let v = c.loop-b in
    let s = c.args.s.now in
    sym (begins-none c.args.word.now v.matched (omega arith) (head (drop v.b-index s)) (head-comma s v.b-index (omega arith) c.in-44.is)) ∙ v.invariant.left

pub returns-then-kept-word : goal.returns-then-kept-word
returns-then-kept-word c =
    let v = c.loop-b in
    let s = c.args.s.now in
    let b = get_or s v.b-index 0 in
    let no_comma : b ≢ 44 = omega arith in
    let kept : (eqb b ampersand || eqb b space) ≡ false = grind (arith, nat_tests) in
    sym (begins-stop c.args.word.now v.matched (omega arith) (head (drop v.b-index s)) b (head (drop (v.b-index + 1) s)) (head-keeps s v.b-index (omega arith) no_comma kept) c.if-kept-word.true) ∙ v.invariant.left

pub loop-b-preserved : goal.loop-b-preserved
loop-b-preserved c =
    let v = c.loop-b in
    let s = c.args.s.now in
    let word = c.args.word.now in
    let at = v.b-index in
    let b = get_or s at 0 in
    elim c.match-b.branch [
      | in-38 w ↦
          let no_comma : b ≢ 44 = grind arith in
          let left_out : (eqb b ampersand || eqb b space) ≡ true = grind (arith, nat_tests) in
          let e = ap (starts_with (drop v.matched word)) (sym (head-leaves s at (omega arith) no_comma left_out)) ∙ v.invariant.left in
          record { in_word = omega arith; left = rw w.matched-is e }
      | in_default+else-kept-word w ↦
          let no_comma : b ≢ 44 = omega arith in
          let kept : (eqb b ampersand || eqb b space) ≡ false = grind (arith, nat_tests) in
          let e = sym (begins-more word v.matched (omega arith) (head (drop at s)) b (head (drop (at + 1) s)) (head-keeps s at (omega arith) no_comma kept) w.if-kept-word.false) ∙ v.invariant.left in
          record { in_word = omega arith; left = rw w.matched-is e }
    ]

pub returns : goal.returns
returns c =
    let v = c.loop-b in
    told_end c.args.word.now v.matched c.args.s.now v.b-index v.invariant.in_word (omega arith) ∙ v.invariant.left
