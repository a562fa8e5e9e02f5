-- The head of a parameter list, in which `self` stands.
use Rattle.std.specs.Prelude.{ℕ, List, take}
use Rattle.text_rules.specs.Classes.{comma}
use Rattle.text_rules.specs.Search.{bytes_before}
use Rattle.source_rules.specs.Parameters.{squeezed}

-- the part before the first comma, without & and spaces
abbrev pub head : List ℕ → List ℕ
head s = squeezed (take (bytes_before comma s) s)
