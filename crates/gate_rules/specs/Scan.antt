-- The scan of a tree, left open: `Scan` says what it gives, and `ScanLaws` the few facts of it that the promises rest on.
-- The gate's own scan is `gate`.
use Rattle.std.specs.Prelude.{ℕ, ◌≤◌, ◌<◌, ◌≡◌, true, false, List, length}
use Rattle.text_rules.specs.Bytes.{All, Lacks, Plain, total}
use Rattle.text_rules.specs.Classes.{lf, tab}
use Rattle.text_rules.specs.Sizes.{max_functions, max_path, max_tree}
use Rattle.text_rules.specs.Utf8.{is_utf8}
use Rattle.gate_rules.specs.Functions.{Fun, is_comment}

-- a file of a tree: its path and its blanked text
pub record File : Type 0 where
  pub path : List ℕ
  pub blanked : List ℕ

-- what a scan gives
pub record Scan : Type 0 where
  -- the first of the refusals 1 to 4 that applies to a tree, or 0
  pub refusal : List ℕ → ℕ
  -- the files of a tree, in their order
  pub files : List ℕ → List File
  -- the functions of the files, in scan order
  pub functions_in : List File → List Fun
  -- the records of a tree's functions, each as its bytes
  pub records_of : List ℕ → List (List ℕ)
  -- the work buffer after the texts of a tree were blanked into it
  pub blanked_into : List ℕ → List ℕ → List ℕ

-- the functions of a tree, in scan order
abbrev pub functions_of : Scan → List ℕ → List Fun
functions_of S tree = S.functions_in (S.files tree)

-- a tree is accepted when none of the refusals 1 to 4 applies and it has at most 8,192 functions
pub record Accepted (S : Scan) (tree : List ℕ) : Type 0 where
  pub unrefused : S.refusal tree ≡ 0
  pub few : length (functions_of S tree) ≤ max_functions

-- what acceptance gives of a function
pub record WellMade (f : Fun) : Type 0 where
  pub path-tab : Lacks tab f.path
  pub path-LF : Lacks lf f.path
  pub path-starts : is_comment f.path ≡ false
  pub path-utf8 : is_utf8 f.path ≡ true
  pub path-short : length f.path ≤ max_path
  pub name-plain : All Plain f.name
  pub cyclomatic_u32 : f.cyclomatic < 4294967296
  pub lines_u32 : f.lines < 4294967296

-- what the promises ask of the scan
pub record ScanLaws (S : Scan) : Type 0 where
  pub well_made : (tree : List ℕ) → Accepted S tree → All WellMade (functions_of S tree)
  -- the names stand in the tree, apart from one another
  pub names_fit : (tree : List ℕ) → Accepted S tree → total (λ f. length f.name) (functions_of S tree) ≤ max_tree
