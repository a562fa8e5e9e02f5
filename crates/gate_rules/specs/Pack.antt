-- How files are packed as a tree file, and which files can be: the layout from the side of the one who writes it.
-- With the laws about it, the layout refuses nothing that it could hold.
use Rattle.std.specs.Prelude.{ℕ, zero, suc, ◌+◌, ◌*◌, ◌≤◌, ◌≡◌, true, List, [], ◌++◌, ◌∷◌, map, length}
use Rattle.text_rules.specs.Bytes.{All, joined}
use Rattle.text_rules.specs.U32.{u32_bytes}
use Rattle.text_rules.specs.Utf8.{is_utf8}
use Rattle.gate_rules.specs.Tree.{PathsUp, Source, is_path}

-- a file to pack
pub record InputFile : Type 0 where
  pub path : List ℕ
  pub text : List ℕ

-- a file of a tree, to pack again
abbrev pub input_of : Source → InputFile
input_of s = record { path = s.path; text = s.text }

-- the place behind a file whose path begins at the running place
abbrev pub place_after : ℕ → InputFile → ℕ
place_after running f = running + length f.path + length f.text

-- a file's entry: path offset, path length, text offset, text length
unfoldable pub packed_entry : (running : ℕ) → InputFile → List ℕ
packed_entry running f = joined (u32_bytes running ∷ u32_bytes (length f.path) ∷ u32_bytes (running + length f.path) ∷ u32_bytes (length f.text) ∷ [])

-- the entries, the first path beginning at the running place
unfoldable pub packed_table : (running : ℕ) → List InputFile → List ℕ
packed_table running [] = []
packed_table running (f ∷ fs) = packed_entry running f ++ packed_table (place_after running f) fs

-- path 0, text 0, path 1, text 1 and so on
unfoldable pub packed_texts : List InputFile → List ℕ
packed_texts [] = []
packed_texts (f ∷ fs) = f.path ++ (f.text ++ packed_texts fs)

-- the tree file: the count, the entries, and the paths and texts
unfoldable pub packed : List InputFile → List ℕ
packed files = u32_bytes (length files) ++ (packed_table (4 + 16 * length files) files ++ packed_texts files)

-- the files that make a tree which none of the refusals 1 to 4 applies to
pub record Packable (files : List InputFile) : Type 0 where
  pub few : length files ≤ 1024
  pub whole : length (packed files) ≤ 16777216
  pub path-some : All (λ f. 1 ≤ length f.path) files
  pub path-short : All (λ f. length f.path ≤ 1024) files
  pub path-good : All (λ f. is_path f.path ≡ true) files
  pub path-order : PathsUp (map (λ f. f.path) files)
  pub text-good : All (λ f. is_utf8 f.text ≡ true) files

-- so many numbers, the first given
unfoldable pub numbers_from : (number left : ℕ) → List ℕ
numbers_from number zero = []
numbers_from number (suc left) = number ∷ numbers_from (suc number) left
