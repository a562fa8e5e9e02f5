-- That the files are the heaviest ones has one proof at most.
use Rattle.std.specs.Prelude.{ℕ, ◌<◌, List, [], ◌∷◌}
use Rattle.std.proofs.Props.{props}
use Rattle.std.specs.Coded.{Unit-prop, ×_prop}
use Rattle.text_rules.specs.Bytes.{All}
use Rattle.report_files.specs.Files.{Heavy}

below-prop : (n : ℕ) (ks : List ℕ) → IsProp (All (λ k. k < n) ks)
below-prop n [] = Unit-prop
below-prop n (k ∷ ks) = ×_prop (hlevel props) (below-prop n ks)

pub heavy_prop : (tree files : List ℕ) → IsProp (Heavy tree files)
heavy_prop tree files = hlevel (props, below-prop)
