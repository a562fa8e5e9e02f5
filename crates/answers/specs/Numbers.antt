-- The numbers of the refusals, and what a call answers as the definitions' record: its number, and counts that are 0 with a refusal.
use Rattle.std.specs.Prelude.{ℕ, Result, Ok, Err}
use Rattle.text_rules.specs.Answer.{Answer}
use Rattle.answers.specs.declared.Refusal.{Refusal}
use Rattle.answers.specs.declared.Refusal.TheVariants.{Length, Layout, Path, Text, Work, Sums, Baseline, Functions, Output}

abbrev pub number_of : Refusal → ℕ
number_of Length = 1
number_of Layout = 2
number_of Path = 3
number_of Text = 4
number_of Work = 5
number_of Sums = 6
number_of Baseline = 7
number_of Functions = 8
number_of Output = 9

-- 0 on success
abbrev pub refusal_number : {A : Type 0} → Result A Refusal → ℕ
refusal_number (Ok a) = 0
refusal_number (Err e) = number_of e

-- the bytes written and the count of functions are told by two functions of what stands for success
abbrev pub answer_by : {A : Type 0} (written functions : A → ℕ) → Result A Refusal → Answer
answer_by written functions (Ok a) = record { number = 0; written = written a; functions = functions a }
answer_by written functions (Err e) = record { number = number_of e; written = 0; functions = 0 }
