-- What the kind of a byte says of it.
use Rattle.std.proofs.Common.{◌≡◌, ◌≢◌, ℕ, true, false, ap, sym, ◌∙◌, refl}
use lib.Dec.{eqb}
use Rattle.text_rules.specs.Classes.{class_of, is_letter, is_space}
use Rattle.text_rules.proofs.ClassesLaws.{class_letter, class_space}
use Rattle.classes.specs.declared.Kind.{Kind}
use Rattle.classes.specs.declared.Kind.TheVariants.{Other, Space, Digit, Letter}
use Rattle.classes.specs.Lent.{number_of}

told_letter : (k : Kind) (b : ℕ) → number_of k ≡ class_of b → eqb (number_of k) 3 ≡ is_letter b
told_letter k b e = ap (λ (n : ℕ). eqb n 3) e ∙ class_letter b

told_space : (k : Kind) (b : ℕ) → number_of k ≡ class_of b → eqb (number_of k) 1 ≡ is_space b
told_space k b e = ap (λ (n : ℕ). eqb n 1) e ∙ class_space b

pub letter : (k : Kind) (b : ℕ) → number_of k ≡ class_of b → k ≡ Letter → true ≡ is_letter b
letter k b e h = ap (λ k. eqb (number_of k) 3) (sym h) ∙ told_letter k b e

pub no-letter : (k : Kind) (b : ℕ) → number_of k ≡ class_of b → k ≢ Letter → false ≡ is_letter b
no-letter Other b e n = told_letter Other b e
no-letter Space b e n = told_letter Space b e
no-letter Digit b e n = told_letter Digit b e
no-letter Letter b e n = absurd (n refl)

pub space : (k : Kind) (b : ℕ) → number_of k ≡ class_of b → k ≡ Space → true ≡ is_space b
space k b e h = ap (λ k. eqb (number_of k) 1) (sym h) ∙ told_space k b e

pub no-space : (k : Kind) (b : ℕ) → number_of k ≡ class_of b → k ≢ Space → false ≡ is_space b
no-space Other b e n = told_space Other b e
no-space Space b e n = absurd (n refl)
no-space Digit b e n = told_space Digit b e
no-space Letter b e n = told_space Letter b e
