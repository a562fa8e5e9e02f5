-- What is seen of the keys that are held: the lines, the keys of these, and where they stand.
use Rattle.std.specs.Prelude.{ℕ, List}
use Rattle.sorted_keys.specs.declared.Place.{Place}

pub record KeyList : Type 0 where
  pub lines : List ℕ
  pub keys : List (List ℕ)
  pub places : List Place
