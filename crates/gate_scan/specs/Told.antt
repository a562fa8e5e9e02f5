-- The records of a text's functions, by the number of its file and the place of the text in the tree.
use Rattle.std.specs.Prelude.{ℕ, suc, ◌+◌, ◌-◌, ◌*◌, ◌≤◌, ◌<◌, ◌≡◌, refl, take, drop}
use Rattle.std.proofs.Math.Path.{ap}
use Rattle.std.proofs.Common.{◌∙◌, add-one, arith, length-append, length-take, length-drop}
use mathlib.Core.List.{List, [], ◌∷◌, ◌++◌, map}
use Rattle.std.proofs.Math.ListN.{length, length-map}
use Rattle.text_rules.specs.BytesLaws.{map-append}
use Rattle.text_rules.specs.Sizes.{record_width}
use Rattle.text_rules.specs.U32.{u32_bytes}
use Rattle.source_rules.specs.Blank.{blanked}
use Rattle.source_rules.specs.TextScan.{TextFun, functions}
use Rattle.gate_rules.specs.RecordForms.{put_record, put_records}
use Rattle.gate_rules.proofs.RecordLaws.{put_record_length, put-records-append}
use Rattle.gate_rules.specs.Records.{record_bytes, record_of, records_in, records_of_files}
use Rattle.gate_rules.proofs.RecordsLaws.{record_width_lem}
use Rattle.gate_rules.proofs.ScanForms.{sources-end, sources-step}
use Rattle.gate_rules.specs.Tree.{Source, entry_at, file_count, source_at, sources_from, text_in, text_length, text_offset}
use Rattle.source.specs.State.{State}
use Rattle.source.specs.declared.Found.{Found}
use Rattle.source.specs.Cursors.{Gives, remaining, text_fun}

-- a file, of which only its number and the place of its text matter to a record
abbrev pub file_at : (number text_at : ℕ) → Source
file_at number text_at = record { number = number; path = []; text = []; text_at = text_at }

-- the bytes of the records of functions
unfoldable pub records_for : (number text_at : ℕ) → List TextFun → List (List ℕ)
records_for number text_at fs = map record_bytes (map (record_of (file_at number text_at)) fs)

-- the eight numbers that are told of a function that was found
abbrev pub told : (number text_at : ℕ) → Found → List ℕ
told number text_at f =
    number ∷ (text_at + f.name_at) ∷ f.name_len ∷ f.line ∷ f.lines ∷ f.cyclomatic ∷ f.nesting ∷ f.params ∷ []

-- each of them is below 2^32
pub record Small (number text_at : ℕ) (f : Found) : Type 0 where
  pub number_small : number < 4294967296
  pub start_small : text_at + f.name_at < 4294967296
  pub len_small : f.name_len < 4294967296
  pub line_small : f.line < 4294967296
  pub lines-small : f.lines < 4294967296
  pub cyclomatic-small : f.cyclomatic < 4294967296
  pub nesting-small : f.nesting < 4294967296
  pub params_small : f.params < 4294967296

-- a function that is found in a text is told by these numbers
told_is : (s : List ℕ) (f : Found) (number place : ℕ) → f.name_at + f.name_len ≤ length s → record_of (file_at number place) (text_fun s f) ≡ told number place f
unfolding record_of text_fun
told_is s f number place h =
    let size : length (take f.name_len (drop f.name_at s)) ≡ f.name_len = simp (length-take, length-drop) (omega arith) in
    ap (λ n. number ∷ (place + f.name_at) ∷ n ∷ f.line ∷ f.lines ∷ f.cyclomatic ∷ f.nesting ∷ f.params ∷ []) size

module _ (s : List ℕ) (c : State) (f : Found) (d : State) (y : Gives s c f d) (number place : ℕ) where
  -- and they are below 2^32
  pub small : number < 1024 → place + length s ≤ 16777216 → Small number place f
  unfolding text_fun
  small h k =
      let i = y.name-inside in
      let line = y.fine.line-most in
      let lines = y.fine.lines-most in
      let branches = y.fine.cyclomatic-most in
      let depth = y.fine.nesting-most in
      let params = y.fine.params-most in
      record {
        number_small = omega arith;
        start_small = omega arith;
        len_small = omega arith;
        line_small = omega arith;
        lines-small = omega arith;
        cyclomatic-small = omega arith;
        nesting-small = omega arith;
        params_small = omega arith;
      }

  -- one function more: its record is put, and the others follow
  pub records-next : (n : ℕ) (buffer : List ℕ) → put_records n (records_for number place (remaining s c)) buffer
      ≡ put_records (n + 1) (records_for number place (remaining s d)) (put_record n (record_bytes (told number place f)) buffer)
  unfolding records_for put_records
  records-next n buffer =
      rw (add-one n)
      (ap (λ fs. put_records n (map record_bytes (map (record_of (file_at number place)) fs)) buffer) y.yields
      ∙ ap (λ r. put_records (suc n) (map record_bytes (map (record_of (file_at number place)) (remaining s d))) (put_record n (record_bytes r) buffer)) (told_is s f number place y.name-inside))

  pub count_next : length (remaining s c) ≡ suc (length (remaining s d))
  count_next = ap length y.yields

-- and their bytes are a record's
pub told-wide : (number place : ℕ) (f : Found) → length (record_bytes (told number place f)) ≡ record_width
unfolding record_bytes u32_bytes
told-wide number place f = refl

-- no function more
pub records-end : (s : List ℕ) (c : State) → remaining s c ≡ [] → (number place n : ℕ) (buffer : List ℕ) → put_records n (records_for number place (remaining s c)) buffer ≡ buffer
unfolding records_for put_records
records-end s c e number place n buffer = ap (λ fs. put_records n (map record_bytes (map (record_of (file_at number place)) fs)) buffer) e

-- each text of a tree stands blanked at its place in work
pub record TextsIn (tree work : List ℕ) : Type 0 where
  pub holds : length tree ≤ length work
  pub there : (k : ℕ) → k < file_count tree → take (text_length tree (entry_at k)) (drop (text_offset tree (entry_at k)) work) ≡ blanked (text_in tree (entry_at k))

-- a loop over the files: the records of those that are left after k of n
module _ (tree : List ℕ) (n k : ℕ) (h : k < n) where
  abbrev pub left : ℕ → ℕ → List (List ℕ)
  left m j = records_of_files (sources_from tree (m - j) j (4 + 16 * j))

  -- the functions of the file with the number k
  abbrev pub here : List TextFun
  here = functions (blanked (text_in tree (entry_at k)))

  left_step : left n k ≡ map (record_of (file_at k (text_offset tree (entry_at k)))) here ++ left n (k + 1)
  unfolding records_of_files records_in source_at record_of
  left_step = ap records_of_files (sources-step tree n k h)

  pub left-count : length (left n k) ≡ length here + length (left n (k + 1))
  left-count = ap length left_step ∙ length-append (map (record_of (file_at k (text_offset tree (entry_at k)))) here) (left n (k + 1)) ∙ ap (λ m. m + length (left n (k + 1))) (length-map here (record_of (file_at k (text_offset tree (entry_at k)))))

  pub left-put : (done : ℕ) (buffer : List ℕ) → put_records done (map record_bytes (left n k)) buffer
      ≡ put_records (done + length here) (map record_bytes (left n (k + 1))) (put_records done (records_for k (text_offset tree (entry_at k)) here) buffer)
  unfolding records_for
  left-put done buffer =
      let mine = map (record_of (file_at k (text_offset tree (entry_at k)))) here in
      let size : length (map record_bytes mine) ≡ length here = length-map mine record_bytes ∙ length-map here (record_of (file_at k (text_offset tree (entry_at k)))) in
      ap (λ rs. put_records done (map record_bytes rs) buffer) left_step
      ∙ ap (λ rs. put_records done rs buffer) (map-append record_bytes mine (left n (k + 1)))
      ∙ put-records-append done (map record_bytes mine) (map record_bytes (left n (k + 1))) buffer
      ∙ ap (λ m. put_records (done + m) (map record_bytes (left n (k + 1))) (put_records done (map record_bytes mine) buffer)) size

pub left_end : (tree : List ℕ) (n k : ℕ) → n ≤ k → records_of_files (sources_from tree (n - k) k (4 + 16 * k)) ≡ []
unfolding records_of_files
left_end tree n k h = ap records_of_files (sources-end tree n k k (4 + 16 * k) h)

-- putting the records of functions keeps a buffer's length
pub records-kept : (number place : ℕ) (fs : List TextFun) (n : ℕ) (buffer : List ℕ) → length (put_records n (records_for number place fs) buffer) ≡ length buffer
unfolding records_for put_records
records-kept number place [] n buffer = refl
records-kept number place (f ∷ fs) n buffer =
    let r = record_bytes (record_of (file_at number place) f) in
    records-kept number place fs (suc n) (put_record n r buffer) ∙ put_record_length n r buffer (record_width_lem (file_at number place) f)
