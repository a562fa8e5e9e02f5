-- An entry of the table by value: its four numbers, and whether it fits where its path is to begin at a place and the tree has so many bytes.
use Rattle.std.specs.Prelude.{ℕ, ◌+◌, ◌≡◌, refl, Bool, ◌&&◌, List, eqb, leb, length}
use Rattle.text_rules.specs.Sizes.{max_path}
use Rattle.gate_rules.specs.Tree.{entry_fits, path_length, path_offset, text_length, text_offset}
use Rattle.layout.specs.declared.Entry.{Entry}

abbrev pub entry_in : List ℕ → (at : ℕ) → Entry
entry_in tree at =
    record { path = path_offset tree at; path_length = path_length tree at; text = text_offset tree at; text_length = text_length tree at }

abbrev pub fits : Entry → (running size : ℕ) → Bool
fits e running size =
    eqb e.path running && leb 1 e.path_length && leb e.path_length max_path && eqb e.text (running + e.path_length) && leb (e.text + e.text_length) size

-- the entry of a tree fits exactly if the definition says so
pub fits-in : (tree : List ℕ) (at running : ℕ) → fits (entry_in tree at) running (length tree) ≡ entry_fits tree at running
unfolding entry_fits
fits-in tree at running = refl
