-- The last byte of a text that is not empty is the one before its length.
use Rattle.std.proofs.Common.{◌≡◌, ◌≤◌, ◌+◌, ◌-◌, ◌&&◌, ◌∙◌, ℕ, List, [], ◌∷◌, true, arith, get_or, length, sym, drop_of_length-le}
use Rattle.std.specs.Prelude.{nat_eq}
use Rattle.text_rules.specs.Classes.{comma}
use Rattle.text_rules.specs.Search.{ends_in}
use Rattle.text_rules.proofs.ScanLaws.{split}
use Rattle.text_rules.proofs.TextSteps.{ends_last}
use Rattle.std.specs.List.{ends_with}
use Rattle.params.proofs.ends_in_comma.Goals as goal

one_last : (x b : ℕ) → (nat_eq x b && true) ≡ nat_eq b x
one_last x b = grind arith

last_word : (x : ℕ) (s : List ℕ) → 1 ≤ length s → ends_with nat_eq s (x ∷ []) ≡ ends_in x s
last_word x s h =
    let at = length s - 1 in
    let all : length s ≤ at + 1 = omega arith in
    rw (split s at (omega arith), drop_of_length-le s all) (one_last x (get_or s at 0) ∙ sym (ends_last x s h))

pub returns : goal.returns
returns c = c.ends_with.ensures.value ∙ last_word comma c.args.s.now c.requires
