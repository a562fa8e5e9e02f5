-- The call blank: its number, and what is left in the output. It tests 1 and 5 and nothing else; any bytes are taken.
use Rattle.std.specs.Prelude.{ℕ, zero, suc, List, ltb, length}
use Rattle.text_rules.specs.Answer.{Answer, answer_at}
use Rattle.text_rules.specs.Bytes.{◌or_else◌, ◌when◌, overwritten}
use Rattle.text_rules.specs.Sizes.{max_tree}
use Rattle.source_rules.specs.Blank.{blanked}

-- 1: the text is too long. 5: the output is shorter than the text
unfoldable pub blank_number : (text output : List ℕ) → ℕ
blank_number text output =
    1 when ltb max_tree (length text)
    or_else 5 when ltb (length output) (length text)

-- written on success only
unfoldable pub blank_output : (text output : List ℕ) → List ℕ
blank_output text output = elim (blank_number text output) [ zero ↦ overwritten (blanked text) output | suc n ↦ output ]

-- the whole call: the answer, and the output afterwards. Its bytes written are the text's, and it counts no functions
pub record Blanked : Type 0 where
  pub answer : Answer
  pub output : List ℕ

unfoldable pub blank_call : (text output : List ℕ) → Blanked
blank_call text output = record { answer = answer_at (blank_number text output) (length text) 0; output = blank_output text output }
