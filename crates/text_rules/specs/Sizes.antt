-- The sizes that are limited, and the width of a record.
use Rattle.std.specs.Prelude.{ℕ}

-- the bytes of a tree, or of a text to blank
abbrev pub max_tree : ℕ
max_tree = 16777216

-- the files of a tree
abbrev pub max_files : ℕ
max_files = 1024

-- the bytes of a path
abbrev pub max_path : ℕ
max_path = 1024

-- the functions of a tree
abbrev pub max_functions : ℕ
max_functions = 8192

-- the bytes of a baseline
abbrev pub max_baseline : ℕ
max_baseline = 33554432

-- the bytes of a record: eight numbers of four bytes
abbrev pub record_width : ℕ
record_width = 32
