-- The heaviest files as they are held: their numbers, and the weights that these tell of.
use Rattle.std.specs.Prelude.{ℕ, ◌≡◌, refl, List, [], ◌∷◌, ◌++◌, length, map, take}
use Rattle.std.proofs.Common.{arith}
use Rattle.gate_rules.specs.Report.{Weight, weight_rows}
use Rattle.report_rows.specs.Texts.{weight-rows-next}
use Rattle.report_files.specs.Files.{file_row}
use Rattle.report_files.specs.Weights.{weight_at}
use Rattle.report_files.specs.declared.Heaviest.{Heaviest}

abbrev pub weights_in : Heaviest → List Weight
weights_in h = map (weight_at h.totals.now.tree.now) (take h.count h.files)

-- the rows of the files with these numbers
unfoldable pub rows_of : List ℕ → List ℕ → List ℕ
rows_of tree ks = weight_rows (map (weight_at tree) ks)

pub rows_none : (tree : List ℕ) (ks : List ℕ) → length ks ≡ 0 → rows_of tree ks ≡ []
unfolding rows_of weight_rows
rows_none tree [] h = refl
rows_none tree (k ∷ ks) h = absurd (omega (arith, h))

pub rows_next : (tree : List ℕ) (k : ℕ) (ks : List ℕ) → rows_of tree (k ∷ ks) ≡ file_row (weight_at tree k) ++ rows_of tree ks
unfolding rows_of
rows_next tree k ks = weight-rows-next (weight_at tree k) (map (weight_at tree) ks)

pub rows_all : (tree : List ℕ) (ks : List ℕ) → rows_of tree ks ≡ weight_rows (map (weight_at tree) ks)
unfolding rows_of
rows_all tree ks = refl
