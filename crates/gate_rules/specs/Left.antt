-- What a call leaves, by the number that it returns: in work and records, in the output, in the table of sums, and in the answer's counts.
-- One record for each of these, over the number and the buffer before and after, and for each call a record of those that it has.
-- LeftLaws proves them for every input.
use Rattle.std.specs.Prelude.{ℕ, ◌+◌, ◌*◌, ◌/◌, ◌≤◌, ◌<◌, min, ◌≡◌, ◌⊎◌, List, [], ◌∷◌, ◌++◌, map, length, take, drop, get_or}
use Rattle.text_rules.specs.Bytes.{All, joined}
use Rattle.text_rules.specs.U32.{u32s_bytes}
use Rattle.source_rules.specs.Blank.{blanked}
use Rattle.source_rules.specs.BlankCall.{Blanked}
use Rattle.gate_rules.specs.Baseline.{entries}
use Rattle.gate_rules.specs.Calls.{Checked, Scanned, Updated}
use Rattle.gate_rules.specs.Check.{listing, regressions, stale}
use Rattle.gate_rules.specs.Exports.{Exported}
use Rattle.gate_rules.specs.Functions.{Limits}
use Rattle.gate_rules.specs.Gate.{gate}
use Rattle.gate_rules.specs.Records.{blank_into, record_bytes, records}
use Rattle.gate_rules.specs.Report.{FileSum, no_sum}
use Rattle.gate_rules.specs.ReportCall.{Reported, report_of, sums_of}
use Rattle.gate_rules.specs.Scan.{functions_of}
use Rattle.gate_rules.specs.SumOver.{sum_over}
use Rattle.gate_rules.specs.Tree.{sources}
use Rattle.gate_rules.specs.Update.{baseline_text, recorded}

-- unchanged with the numbers from 1 to the last one given
abbrev pub Kept : {A : Type 0} → (last number : ℕ) (before after : List A) → Type 0
Kept last number before after = 1 ≤ number → number ≤ last → after ≡ before

-- a place that is in no text of the tree
abbrev pub Outside : List ℕ → ℕ → Type 0
Outside tree i = All (λ f. (i < f.text_at) ⊎ (f.text_at + length f.text ≤ i)) (sources tree)

-- work, blanked: at each text's place its blanked bytes, and elsewhere what stood there
pub record WorkBlanked (tree work work' : List ℕ) : Type 0 where
  pub blanked-work : work' ≡ blank_into (sources tree) work
  pub same_length : length work' ≡ length work
  pub texts : All (λ f. take (length f.text) (drop f.text_at work') ≡ blanked f.text) (sources tree)
  pub outside : (i : ℕ) → Outside tree i → get_or work' i 0 ≡ get_or work i 0

-- the bytes of a tree's first records, so many as given, and then what stood in the buffer from there on
abbrev pub first_records : (count : ℕ) (tree buffer : List ℕ) → List ℕ
first_records count tree buffer = joined (map record_bytes (take count (records tree))) ++ drop (32 * count) buffer

-- work and records. With 8, as many first records as there are functions, as 8,192 and as the whole records lent allow
pub record ScanLeft (tree work records' : List ℕ) (number : ℕ) (work'' records'' : List ℕ) : Type 0 where
  pub refused-work : Kept 7 number work work''
  pub refused-records : Kept 7 number records' records''
  pub scanned_work : (number ≡ 0) ⊎ (number ≡ 8) ⊎ (number ≡ 9) → WorkBlanked tree work work''
  pub eight-records : number ≡ 8 → records'' ≡ first_records (min (length (functions_of gate tree)) (min 8192 (length records' / 32))) tree records'
  pub written-records : (number ≡ 0) ⊎ (number ≡ 9) → records'' ≡ joined (map record_bytes (records tree)) ++ drop (32 * length (functions_of gate tree)) records'

-- an output: the text on success, and what stood beyond it; unchanged with every refusal
pub record OutputLeft (text output : List ℕ) (number : ℕ) (output' : List ℕ) : Type 0 where
  pub refused-output : 1 ≤ number → output' ≡ output
  pub written-output : number ≡ 0 → output' ≡ text ++ drop (length text) output

-- the table of sums, written: an entry for each file, and what stood beyond them
pub record SumsWritten (tree : List ℕ) (sums sums' : List FileSum) : Type 0 where
  pub written : sums' ≡ sums_of gate tree ++ drop (length (sources tree)) sums
  pub each : (k : ℕ) → k < length (sources tree) → get_or sums' k no_sum ≡ record { file = k; sum = sum_over k (records tree) }

pub record SumsLeft (tree : List ℕ) (sums : List FileSum) (number : ℕ) (sums' : List FileSum) : Type 0 where
  pub refused-sums : Kept 8 number sums sums'
  pub written-sums : (number ≡ 0) ⊎ (number ≡ 9) → SumsWritten tree sums sums'

-- the counts of an answer: 0 with every refusal, and the values on success
pub record Counted (values : List ℕ) (number : ℕ) (counts : List ℕ) : Type 0 where
  pub refused-counts : 1 ≤ number → All (λ c. c ≡ 0) counts
  pub success-counts : number ≡ 0 → counts ≡ values

-- THE CALLS

pub record BlankLeft (text output : List ℕ) (b : Blanked) : Type 0 where
  pub output-buffer : OutputLeft (blanked text) output b.answer.number b.output
  pub counts : Counted (length text ∷ 0 ∷ []) b.answer.number (b.answer.written ∷ b.answer.functions ∷ [])

pub record ScannedLeft (tree work records' : List ℕ) (s : Scanned) : Type 0 where
  pub scan_buffers : ScanLeft tree work records' s.answer.number s.work s.records
  pub counts : Counted (0 ∷ length (functions_of gate tree) ∷ []) s.answer.number (s.answer.written ∷ s.answer.functions ∷ [])

pub record CheckedLeft (L : Limits) (tree baseline work records' output : List ℕ) (c : Checked) : Type 0 where
  pub scan_buffers : ScanLeft tree work records' c.answer.number c.work c.records
  pub output-buffer : OutputLeft (listing L (entries baseline) (functions_of gate tree)) output c.answer.number c.output
  pub counts :
      let fs = functions_of gate tree in
      let es = entries baseline in
      Counted (length (listing L es fs) ∷ length fs ∷ length (regressions L es fs) ∷ length (stale es fs) ∷ []) c.answer.number
      (c.answer.written ∷ c.answer.functions ∷ c.answer.regressed ∷ c.answer.stale ∷ [])

pub record UpdatedLeft (L : Limits) (tree work records' output : List ℕ) (u : Updated) : Type 0 where
  pub scan_buffers : ScanLeft tree work records' u.answer.number u.work u.records
  pub output-buffer : OutputLeft (baseline_text L (functions_of gate tree)) output u.answer.number u.output
  pub counts :
      let fs = functions_of gate tree in
      Counted (length (baseline_text L fs) ∷ length fs ∷ length (recorded L fs) ∷ []) u.answer.number
      (u.answer.written ∷ u.answer.functions ∷ u.answer.recorded ∷ [])

pub record ReportedLeft (L : Limits) (tree work records' : List ℕ) (sums : List FileSum) (output : List ℕ) (r : Reported) : Type 0 where
  pub scan_buffers : ScanLeft tree work records' r.answer.number r.work r.records
  pub sums-table : SumsLeft tree sums r.answer.number r.sums
  pub output-buffer : OutputLeft (report_of gate L tree) output r.answer.number r.output
  pub counts :
      Counted (length (report_of gate L tree) ∷ length (functions_of gate tree) ∷ []) r.answer.number (r.answer.written ∷ r.answer.functions ∷ [])

-- An export with counts: `text` is what it writes to the output, `values` are what it puts, as four bytes each, into the counts.
-- Scan's export has no output: the empty list stands there.
pub record ExportedLeft (tree text values work records' output counts : List ℕ) (e : Exported) : Type 0 where
  pub scan_buffers : ScanLeft tree work records' e.number e.work e.records
  pub output-buffer : OutputLeft text output e.number e.output
  pub counts-buffer : OutputLeft (u32s_bytes values) counts e.number e.counts
