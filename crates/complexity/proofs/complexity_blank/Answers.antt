-- `complexity::complexity_blank` meets its contract: it is the call blank.
use mathlib.Core.Path.{◌≡◌, refl, sym, ◌∙◌}
use Rattle.std.specs.Prelude.{ℕ, Result, Ok, Err}
use Rattle.answers.specs.Numbers.{refusal_number}
use Rattle.answers.specs.declared.Refusal.{Refusal}
use Rattle.blanking.specs.Bare.{blank_answer}
use Rattle.gate_rules.proofs.ExportLaws.{blank_export}
use Rattle.complexity.proofs.complexity_blank.Goals as goal

told : (r : Result ℕ Refusal) → refusal_number r ≡ (blank_answer r).number
told (Ok n) = refl
told (Err e) = refl

pub returns : goal.returns
returns c =
    let a = c.args in
    let e = blank_export a.text.now a.output.now in
    record { number_is = c.number.ensures ∙ told c.blank.result ∙ c.blank.ensures.number_is ∙ sym e.0; output-is = c.blank.ensures.output-is ∙ sym e.1 }
