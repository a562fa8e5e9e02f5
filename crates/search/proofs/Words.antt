-- The word `fn` at a place of a text.
use Prim.Native.Nat.{ℕ, ◌+◌, ◌≤◌}
use Rattle.std.specs.Prelude.{◌≡◌, true, not, ◌&&◌, List, ◌∷◌, drop, get_or, length}
use Rattle.std.proofs.Common.{ap, arith, get_or-drop, length-drop}
use Rattle.text_rules.specs.Bytes.{ascii}
use Rattle.text_rules.specs.Classes.{is_word}
use Rattle.text_rules.specs.Search.{starts_with}
use Rattle.text_rules.proofs.StartsLaws.{starts-length}
use Rattle.source_rules.specs.Finding.{is_fn}

pub word_there : (at : ℕ) (s : List ℕ) → is_fn (get_or (0 ∷ s) at 0) (drop at s)
    ≡ (starts_with (ascii "fn") (drop at s) && not (is_word (get_or (0 ∷ s) at 0)) && not (is_word (get_or s (at + 2) 0)))
unfolding is_fn
word_there at s = ap (λ b. starts_with (ascii "fn") (drop at s) && not (is_word (get_or (0 ∷ s) at 0)) && not (is_word b)) (get_or-drop at s 2 0)

-- where it stands, the text goes on for two bytes
pub word_inside : (at : ℕ) (s : List ℕ) → starts_with (ascii "fn") (drop at s) ≡ true → at + 2 ≤ length s
word_inside at s e = omega (arith, starts-length (ascii "fn") (drop at s) e, length-drop at s)
