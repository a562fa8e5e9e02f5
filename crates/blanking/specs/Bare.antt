-- What the functions of this crate ensure, in the words of the rules.
use Rattle.std.specs.Prelude.{◌≡◌, ◌≢◌, Result, List, ◌∷◌, ◌++◌, ℕ, ◌-◌, ◌≤◌, ◌<◌, length, get_or, take, drop}
use Rattle.answers.specs.Numbers.{answer_by}
use Rattle.answers.specs.declared.Refusal.{Refusal}
use Rattle.text_rules.specs.Answer.{Answer}
use Rattle.text_rules.specs.Classes.{apostrophe, hash, quote, slash}
use Rattle.source_rules.specs.Blank.{blank_from, token_length}
use Rattle.source_rules.specs.BlankCall.{blank_call}

-- the output as it will be when the rest of the text is blanked: the bytes before `at` are written, a token goes on to `end`, and what stands beyond the text remains
abbrev pub finished : (text output : List ℕ) (at end : ℕ) → List ℕ
finished text output at end = take at output ++ (blank_from (end - at) (get_or (0 ∷ text) at 0) (drop at text) ++ drop (length text) output)

-- a byte that begins no token by itself and does not stand behind the letters of a raw opening
pub record Bare (b : ℕ) : Type 0 where
  pub no_slash : b ≢ slash
  pub no-quote : b ≢ quote
  pub no-apostrophe : b ≢ apostrophe
  pub no-hash : b ≢ hash

-- each byte from one place to another is bare
abbrev pub AllBare : (text : List ℕ) (from to : ℕ) → Type 0
AllBare text from to = (i : ℕ) → from ≤ i → i < to → Bare (get_or text i 0)

-- no token begins from one place to another
abbrev pub NoToken : (text : List ℕ) (from to : ℕ) → Type 0
NoToken text from to = (i : ℕ) → from ≤ i → i < to → token_length (get_or (0 ∷ text) i 0) (drop i text) ≡ 0

-- what blank hands back, as the record of the definitions: it counts no functions
abbrev pub blank_answer : Result ℕ Refusal → Answer
blank_answer = answer_by (λ n. n) (λ _. 0)

-- the call blank: its answer, and what it leaves in the output
pub record Answered (text output : List ℕ) (r : Answer) (left : List ℕ) : Type 0 where
  pub number_is : r.number ≡ (blank_call text output).answer.number
  pub written_is : r.written ≡ (blank_call text output).answer.written
  pub functions-is : r.functions ≡ (blank_call text output).answer.functions
  pub output-is : left ≡ (blank_call text output).output
