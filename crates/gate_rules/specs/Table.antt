-- The table of refusals, as a table: for each call its rows in the order in which they are tested, each a number and its condition.
-- The conditions are spelled out with the numbers of the rules; of the definitions they use the files of a tree and their functions, the
-- listings, UTF-8 and the order of paths. TableLaws proves that every call answers by its table.
use Rattle.std.specs.Prelude.{ℕ, zero, suc, ◌+◌, ◌*◌, ◌/◌, ◌≤◌, ◌<◌, ◌≡◌, true, ◌⊎◌, ◌≢◌, List, [], ◌++◌, ◌∷◌, map, length, get_or}
use Rattle.text_rules.specs.Bytes.{All, Lacks}
use Rattle.text_rules.specs.U32.{u32_at}
use Rattle.text_rules.specs.Utf8.{is_utf8}
use Rattle.gate_rules.specs.Baseline.{entries}
use Rattle.gate_rules.specs.Check.{listing}
use Rattle.gate_rules.specs.Functions.{Limits}
use Rattle.gate_rules.specs.Gate.{gate}
use Rattle.gate_rules.specs.Report.{FileSum}
use Rattle.gate_rules.specs.ReportCall.{report_of}
use Rattle.gate_rules.specs.Scan.{functions_of}
use Rattle.gate_rules.specs.Tree.{PathsUp, Source, sources}
use Rattle.gate_rules.specs.Update.{baseline_text}

-- a row: the number returned, and when
pub record Row : Type 1 where
  pub number : ℕ
  pub holds : Type 0

infix 70 ◌if◌
abbrev pub ◌if◌ : ℕ → Type 0 → Row
number if condition = record { number = number; holds = condition }

-- the row's condition does not hold
abbrev pub Fails : Row → Type 0
Fails r = r.holds → ⊥

-- the number of the first row whose condition holds, in the table's order; 0 where none does
unfoldable pub First : List Row → ℕ → Type 0
First [] n = n ≡ 0
First (r ∷ rs) n = (r.holds × (n ≡ r.number)) ⊎ (Fails r × First rs n)

-- the numbers of the rows are all different, and none is 0
unfoldable pub Different : List Row → Type 0
Different [] = Unit {0}
Different (r ∷ rs) = (r.number ≢ 0) × All (λ q. q.number ≢ r.number) rs × Different rs

-- 1: tree, or text to blank, over 16,777,216 bytes
abbrev pub TooLong : List ℕ → Type 0
TooLong text = 16777216 < length text

-- An entry of 16 bytes whose path begins at the running place: path offset, path length, text offset, text length. Both offsets are the
-- running place, the path has 1 to 1,024 bytes, and the text ends inside the tree.
pub record EntryLaid (tree : List ℕ) (entry running : ℕ) : Type 0 where
  pub path_offset : u32_at tree entry ≡ running
  pub path-some : 1 ≤ u32_at tree (entry + 4)
  pub path-short : u32_at tree (entry + 4) ≤ 1024
  pub text_offset : u32_at tree (entry + 8) ≡ running + u32_at tree (entry + 4)
  pub text-inside : u32_at tree (entry + 8) + u32_at tree (entry + 12) ≤ length tree

-- `left` entries from `entry` on; the last running place is the end of the tree
abbrev pub EntriesLaid : List ℕ → (left entry running : ℕ) → Type 0
EntriesLaid tree zero entry running = running ≡ length tree
EntriesLaid tree (suc left) entry running =
    EntryLaid tree entry running × EntriesLaid tree left (entry + 16) (u32_at tree (entry + 8) + u32_at tree (entry + 12))

-- the layout and its limits: the file count in bytes 0 to 3, at most 1,024, the entries, and then paths and texts without gaps
pub record Layout (tree : List ℕ) : Type 0 where
  pub count-there : 4 ≤ length tree
  pub count_small : u32_at tree 0 ≤ 1024
  pub table-inside : 4 + 16 * u32_at tree 0 ≤ length tree
  pub entries-laid : EntriesLaid tree (u32_at tree 0) 4 (4 + 16 * u32_at tree 0)

-- 2: layout or its limits broken
abbrev pub Unlaid : List ℕ → Type 0
Unlaid tree = Layout tree → ⊥

-- a path has no tab (9) and no LF (10), does not start with # (35), and is UTF-8
pub record PathFine (path : List ℕ) : Type 0 where
  pub no-tab : Lacks 9 path
  pub no-LF : Lacks 10 path
  pub no-hash : get_or path 0 0 ≢ 35
  pub utf8 : is_utf8 path ≡ true

-- every path is fine, and each stands behind the one before
pub record GoodPaths (files : List Source) : Type 0 where
  pub fine : All (λ f. PathFine f.path) files
  pub rising : PathsUp (map (λ f. f.path) files)

-- 3: a path has a tab or LF, starts with #, isn't UTF-8, or doesn't rise
abbrev pub BadPath : List ℕ → Type 0
BadPath tree = GoodPaths (sources tree) → ⊥

-- 4: a text isn't UTF-8
abbrev pub BadText : List ℕ → Type 0
BadText tree = All (λ f. is_utf8 f.text ≡ true) (sources tree) → ⊥

-- 5: work shorter than tree, or blanking's output than its text
abbrev pub TooShort : (buffer text : List ℕ) → Type 0
TooShort buffer text = length buffer < length text

-- 6: fewer sum entries than files
abbrev pub FewSums : List FileSum → List ℕ → Type 0
FewSums sums tree = length sums < length (sources tree)

-- 7: baseline too long
abbrev pub LongBaseline : List ℕ → Type 0
LongBaseline baseline = 33554432 < length baseline

-- 8: more functions than 8,192 or whole records lent
abbrev pub ManyFunctions : (records tree : List ℕ) → Type 0
ManyFunctions records tree = let n = length (functions_of gate tree) in (8192 < n) ⊎ (length records / 32 < n)

-- 9: output shorter than the listing: the condition is `TooShort output listing`

-- the rows that tell of a tree alone
abbrev pub tree_rows : List ℕ → List Row
tree_rows tree = 1 if TooLong tree ∷ 2 if Unlaid tree ∷ 3 if BadPath tree ∷ 4 if BadText tree ∷ []

-- the tables of the calls
abbrev pub blank_table : (text output : List ℕ) → List Row
blank_table text output = 1 if TooLong text ∷ 5 if TooShort output text ∷ []

abbrev pub scan_table : (tree work records : List ℕ) → List Row
scan_table tree work records = tree_rows tree ++ (5 if TooShort work tree ∷ 8 if ManyFunctions records tree ∷ [])

abbrev pub check_table : Limits → (tree baseline work records output : List ℕ) → List Row
check_table L tree baseline work records output =
    tree_rows tree
    ++ (5 if TooShort work tree
    ∷ 7 if LongBaseline baseline
    ∷ 8 if ManyFunctions records tree
    ∷ 9 if TooShort output (listing L (entries baseline) (functions_of gate tree))
    ∷ [])

abbrev pub update_table : Limits → (tree work records output : List ℕ) → List Row
update_table L tree work records output =
    tree_rows tree
    ++ (5 if TooShort work tree
    ∷ 8 if ManyFunctions records tree
    ∷ 9 if TooShort output (baseline_text L (functions_of gate tree))
    ∷ [])

abbrev pub report_table : Limits → (tree work records : List ℕ) → List FileSum → List ℕ → List Row
report_table L tree work records sums output =
    tree_rows tree
    ++ (5 if TooShort work tree
    ∷ 6 if FewSums sums tree
    ∷ 8 if ManyFunctions records tree
    ∷ 9 if TooShort output (report_of gate L tree)
    ∷ [])

-- The tables of the exports. 5 also tells that too few bytes were lent for the counts: 4 for scan, 16 for check, 12 for update and 8 for
-- report. The export of blank has blank's table. The export of report brings its own table of sums, so that 6 cannot apply.
abbrev pub FewCounts : (width : ℕ) (work tree counts : List ℕ) → Type 0
FewCounts width work tree counts = TooShort work tree ⊎ (length counts < width)

abbrev pub exported_scan_table : (tree work records counts : List ℕ) → List Row
exported_scan_table tree work records counts = tree_rows tree ++ (5 if FewCounts 4 work tree counts ∷ 8 if ManyFunctions records tree ∷ [])

abbrev pub exported_check_table : Limits → (tree baseline work records output counts : List ℕ) → List Row
exported_check_table L tree baseline work records output counts =
    tree_rows tree
    ++ (5 if FewCounts 16 work tree counts
    ∷ 7 if LongBaseline baseline
    ∷ 8 if ManyFunctions records tree
    ∷ 9 if TooShort output (listing L (entries baseline) (functions_of gate tree))
    ∷ [])

abbrev pub exported_update_table : Limits → (tree work records output counts : List ℕ) → List Row
exported_update_table L tree work records output counts =
    tree_rows tree
    ++ (5 if FewCounts 12 work tree counts
    ∷ 8 if ManyFunctions records tree
    ∷ 9 if TooShort output (baseline_text L (functions_of gate tree))
    ∷ [])

abbrev pub exported_report_table : Limits → (tree work records output counts : List ℕ) → List Row
exported_report_table L tree work records output counts =
    tree_rows tree
    ++ (5 if FewCounts 8 work tree counts
    ∷ 8 if ManyFunctions records tree
    ∷ 9 if TooShort output (report_of gate L tree)
    ∷ [])
