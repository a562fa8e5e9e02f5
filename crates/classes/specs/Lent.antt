-- The table as it is lent to loops.
use Rattle.std.specs.Prelude.{ℕ, ◌<◌, ◌≡◌, List, get_or}
use Rattle.text_rules.specs.Classes.{class_of}
use Rattle.classes.specs.declared.Kind.{Kind}
use Rattle.classes.specs.declared.Kind.TheVariants.{Other, Space, Digit, Letter}

-- the number that the rules give a class
abbrev pub number_of : Kind → ℕ
number_of Other = 0
number_of Space = 1
number_of Digit = 2
number_of Letter = 3

-- at each of 256 places stands the class of the byte of that number
pub record IsTable (t : List Kind) : Type 0 where
  pub class_at : (k : ℕ) → k < 256 → number_of (get_or t k Other) ≡ class_of k
