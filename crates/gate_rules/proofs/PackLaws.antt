-- Files that are packed make a tree that is not refused, and are read from it as they were.
use Rattle.std.specs.Prelude.{ℕ, suc, ◌+◌, ◌-◌, ◌*◌, ◌≤◌, ◌<◌, ◌≡◌, true, drop}
use Rattle.std.proofs.Math.Path.{refl, ap, ap₂, sym}
use Rattle.std.proofs.Common.{◌∙◌, subst, arith, length-drop, drop_at, drop-drop}
use mathlib.Core.List.{List, [], ◌∷◌, ◌++◌, map, append_assoc}
use Rattle.std.proofs.Math.ListN.{length, take, length-append}
use Rattle.std.proofs.Math.Seq.{drop-append_seam, take-append_seam}
use borrow.Author.Tests.{eq-eqb, le-leb, le-ltb}
use Rattle.text_rules.specs.Bytes.{All}
use Rattle.text_rules.specs.U32.{u32_at, u32_bytes}
use Rattle.text_rules.proofs.U32Laws.{u32_drop, u32_read}
use Rattle.text_rules.specs.Utf8.{is_utf8}
use Rattle.gate_rules.proofs.ConditionLaws.{behind-empty}
use Rattle.gate_rules.specs.Pack.{InputFile, Packable, numbers_from, packed, packed_entry, packed_table, packed_texts, place_after}
use Rattle.gate_rules.proofs.ScanForms.{entry-last, layout_rest}
use Rattle.gate_rules.specs.Tree.{PathsUp, Source, entries_fit, entry_fits, file_count, is_laid_out, is_path, path_length, path_offset, paths_rise, source_at, sources, sources_from, text_length, text_offset, texts_good, tree_refusal}

-- a file as it is read back
placed_source : (number running : ℕ) → InputFile → Source
placed_source number running f = record { number = number; path = f.path; text = f.text; text_at = running + length f.path }

placed_sources : (number running : ℕ) → List InputFile → List Source
placed_sources number running [] = []
placed_sources number running (f ∷ fs) = placed_source number running f ∷ placed_sources (suc number) (place_after running f) fs

-- the four numbers of an entry
record EntryRead (tree : List ℕ) (entry running : ℕ) (f : InputFile) : Type 0 where
  path-at : path_offset tree entry ≡ running
  path-size : path_length tree entry ≡ length f.path
  text_at : text_offset tree entry ≡ running + length f.path
  text-size : text_length tree entry ≡ length f.text

entry_read : (running : ℕ) (f : InputFile) (rest : List ℕ) → place_after running f < 4294967296 → EntryRead (packed_entry running f ++ rest) 0 running f
unfolding packed_entry u32_at u32_bytes
entry_read running f rest h =
    record {
      path-at = u32_read running [] (omega arith);
      path-size = u32_read (length f.path) [] (omega arith);
      text_at = u32_read (running + length f.path) [] (omega arith);
      text-size = u32_read (length f.text) [] (omega arith);
    }

-- ---- a place in a tree: from here on the entries of `fs`, and from the running place on their paths and texts
record Ahead (tree : List ℕ) (entry running : ℕ) (rest : List ℕ) (fs : List InputFile) : Type 0 where
  entries-here : drop entry tree ≡ packed_table running fs ++ rest
  texts-here : drop running tree ≡ packed_texts fs
  inside : running ≤ length tree

module _ (tree : List ℕ) (small : length tree ≤ 16777216) where
  module _ (entry running : ℕ) (rest : List ℕ) (f : InputFile) (fs : List InputFile) (a : Ahead tree entry running rest (f ∷ fs)) where
    file-inside : place_after running f ≤ length tree
    unfolding packed_texts
    file-inside =
        let size : length tree - running ≡ length (f.path ++ (f.text ++ packed_texts fs)) = sym (length-drop running tree) ∙ ap length a.texts-here in
        let parts : length (f.path ++ (f.text ++ packed_texts fs)) ≡ length f.path + (length f.text + length (packed_texts fs)) = simp length-append in
        omega (arith, a.inside)

    here : drop entry tree ≡ packed_entry running f ++ (packed_table (place_after running f) fs ++ rest)
    unfolding packed_table
    here = a.entries-here ∙ append_assoc (packed_entry running f) (packed_table (place_after running f) fs) rest

    -- a number of the entry
    number-here : (k n : ℕ) → u32_at (packed_entry running f ++ (packed_table (place_after running f) fs ++ rest)) k ≡ n → u32_at tree (entry + k) ≡ n
    number-here k n e = sym (u32_drop entry tree k) ∙ ap (λ s. u32_at s k) here ∙ e

    read_here : EntryRead tree entry running f
    read_here =
        let r = entry_read running f (packed_table (place_after running f) fs ++ rest) (omega (arith, file-inside)) in
        let e : entry ≡ entry + 0 = omega arith in
        record {
          path-at = ap (u32_at tree) e ∙ number-here 0 running r.path-at;
          path-size = number-here 4 _ r.path-size;
          text_at = number-here 8 _ r.text_at;
          text-size = number-here 12 _ r.text-size;
        }

    text-here : drop (running + length f.path) tree ≡ f.text ++ packed_texts fs
    unfolding packed_texts
    text-here = sym (drop-drop (length f.path) running tree) ∙ ap (drop (length f.path)) a.texts-here ∙ drop-append_seam f.path (f.text ++ packed_texts fs)

    skip_entry : (s : List ℕ) → drop 16 (packed_entry running f ++ s) ≡ s
    unfolding packed_entry u32_bytes
    skip_entry s = refl

    next : Ahead tree (entry + 16) (place_after running f) rest fs
    next =
        record {
          entries-here = sym (drop-drop 16 entry tree) ∙ ap (drop 16) here ∙ skip_entry (packed_table (place_after running f) fs ++ rest);
          texts-here = sym (drop-drop (length f.text) (running + length f.path) tree) ∙ ap (drop (length f.text)) text-here ∙ drop-append_seam f.text (packed_texts fs);
          inside = file-inside;
        }

    source-here : (number : ℕ) → source_at tree number entry ≡ placed_source number running f
    unfolding source_at placed_source packed_texts
    source-here number =
        let r = read_here in
        let path : take (path_length tree entry) (drop (path_offset tree entry) tree) ≡ f.path =
        ap₂ (λ n k. take n (drop k tree)) r.path-size r.path-at ∙ ap (take (length f.path)) a.texts-here ∙ take-append_seam f.path (f.text ++ packed_texts fs) in
        let text : take (text_length tree entry) (drop (text_offset tree entry) tree) ≡ f.text =
        ap₂ (λ n k. take n (drop k tree)) r.text-size r.text_at ∙ ap (take (length f.text)) text-here ∙ take-append_seam f.text (packed_texts fs) in
        λ i. record { number = number; path = path i; text = text i; text_at = r.text_at i }

    entry_here : 1 ≤ length f.path → length f.path ≤ 1024 → entry_fits tree entry running ≡ true
    entry_here some short =
        let r = read_here in
        let p = r.path-size in
        let t = r.text_at in
        let s = r.text-size in
        entry-last tree entry running r.path-at (omega arith) (omega arith) (omega arith) ∙ le-leb (text_offset tree entry + text_length tree entry) (length tree) (omega (arith, file-inside))

    place-next : text_offset tree entry + text_length tree entry ≡ place_after running f
    place-next = let r = read_here in ap₂ ◌+◌ r.text_at r.text-size

  sources-ahead : (number entry running : ℕ) (rest : List ℕ) (fs : List InputFile) → Ahead tree entry running rest fs → sources_from tree (length fs) number entry ≡ placed_sources number running fs
  unfolding sources_from placed_sources
  sources-ahead number entry running rest [] a = refl
  sources-ahead number entry running rest (f ∷ fs) a =
      ap₂ ◌∷◌ (source-here entry running rest f fs a number) (sources-ahead (suc number) (entry + 16) (place_after running f) rest fs (next entry running rest f fs a))

  fit_ahead : (entry running : ℕ) (rest : List ℕ) (fs : List InputFile) → Ahead tree entry running rest fs → All (λ f. 1 ≤ length f.path) fs → All (λ f. length f.path ≤ 1024) fs
      → entries_fit tree (length fs) entry running ≡ true
  unfolding entries_fit packed_texts
  fit_ahead entry running rest [] a some short =
      let none_left : length tree - running ≡ 0 = sym (length-drop running tree) ∙ ap length a.texts-here in
      eq-eqb running (length tree) (omega (arith, a.inside))
  fit_ahead entry running rest (f ∷ fs) a some short =
      rw (entry_here entry running rest f fs a some.0 short.0, place-next entry running rest f fs a)
      (fit_ahead (entry + 16) (place_after running f) rest fs (next entry running rest f fs a) some.1 short.1)

-- ---- the whole tree

table-length : (running : ℕ) (fs : List InputFile) → length (packed_table running fs) ≡ 16 * length fs
unfolding packed_table packed_entry u32_bytes
table-length running [] = refl
table-length running (f ∷ fs) = omega (arith, table-length (place_after running f) fs)

packed-length : (files : List InputFile) → length (packed files) ≡ 4 + 16 * length files + length (packed_texts files)
unfolding packed u32_bytes
packed-length files = simp length-append (omega (arith, table-length (4 + 16 * length files) files))

packed_start : (files : List InputFile) → Ahead (packed files) 4 (4 + 16 * length files) (packed_texts files) files
unfolding packed u32_bytes
packed_start files =
    let n = length files in
    record {
      entries-here = refl;
      texts-here = sym (drop-drop (16 * n) 4 (packed files)) ∙ drop_at (packed_table (4 + 16 * n) files) (packed_texts files) (16 * n) (table-length (4 + 16 * n) files);
      inside = omega (arith, packed-length files);
    }

packed-count : (files : List InputFile) → length files ≤ 1024 → file_count (packed files) ≡ length files
unfolding file_count packed
packed-count files few = u32_read (length files) _ (omega arith)

packed-rise : (last : List ℕ) (number running : ℕ) (fs : List InputFile) → All (λ f. is_path f.path ≡ true) fs → PathsUp (last ∷ map (λ f. f.path) fs)
    → paths_rise last (placed_sources number running fs) ≡ true
unfolding paths_rise placed_sources placed_source
packed-rise last number running [] g u = refl
packed-rise last number running (f ∷ fs) g u = rw (g.0, u.0) (packed-rise f.path (suc number) (place_after running f) fs g.1 u.1)

-- the first path, which has a byte, stands behind the empty path
from_empty : (fs : List InputFile) → All (λ f. 1 ≤ length f.path) fs → PathsUp (map (λ f. f.path) fs) → PathsUp ([] ∷ map (λ f. f.path) fs)
from_empty [] h u = tt
from_empty (f ∷ fs) h u = (behind-empty f.path h.0, u)

texts-good : (number running : ℕ) (fs : List InputFile) → All (λ f. is_utf8 f.text ≡ true) fs → texts_good (placed_sources number running fs) ≡ true
unfolding texts_good placed_sources placed_source
texts-good number running [] h = refl
texts-good number running (f ∷ fs) h = rw h.0 (texts-good (suc number) (place_after running f) fs h.1)

module _ (files : List InputFile) (p : Packable files) where
  packed-sources : sources (packed files) ≡ placed_sources 0 (4 + 16 * length files) files
  unfolding sources
  packed-sources =
      ap (λ n. sources_from (packed files) n 0 4) (packed-count files p.few)
      ∙ sources-ahead (packed files) p.whole 0 4 (4 + 16 * length files) (packed_texts files) files (packed_start files)

  packed-laid : is_laid_out (packed files) ≡ true
  packed-laid =
      let tree = packed files in
      let count = packed-count files p.few in
      let size = packed-length files in
      layout_rest tree (omega arith) (omega (arith, p.few)) (omega arith)
      ∙ subst (λ n. entries_fit tree n 4 (4 + 16 * n) ≡ true) (sym count)
      (fit_ahead tree p.whole 4 (4 + 16 * length files) (packed_texts files) files (packed_start files) p.path-some p.path-short)

  -- files that are packed are not refused
  pub packed-accepted : tree_refusal (packed files) ≡ 0
  unfolding tree_refusal
  packed-accepted =
      rw (
        le-ltb 16777216 (length (packed files)) p.whole,
        packed-laid,
        packed-sources,
        packed-rise [] 0 (4 + 16 * length files) files p.path-good (from_empty files p.path-some p.path-order),
        texts-good 0 (4 + 16 * length files) files p.text-good,
      )

-- the files of a tree are these, in order
pub record ReadBack (tree : List ℕ) (files : List InputFile) : Type 0 where
  pub paths : map (λ s. s.path) (sources tree) ≡ map (λ f. f.path) files
  pub texts : map (λ s. s.text) (sources tree) ≡ map (λ f. f.text) files
  pub numbers : map (λ s. s.number) (sources tree) ≡ numbers_from 0 (length files)

placed-paths : (number running : ℕ) (fs : List InputFile) → map (λ s. s.path) (placed_sources number running fs) ≡ map (λ f. f.path) fs
unfolding placed_sources placed_source
placed-paths number running [] = refl
placed-paths number running (f ∷ fs) = ap (λ r. f.path ∷ r) (placed-paths (suc number) (place_after running f) fs)

placed-texts : (number running : ℕ) (fs : List InputFile) → map (λ s. s.text) (placed_sources number running fs) ≡ map (λ f. f.text) fs
unfolding placed_sources placed_source
placed-texts number running [] = refl
placed-texts number running (f ∷ fs) = ap (λ r. f.text ∷ r) (placed-texts (suc number) (place_after running f) fs)

placed-numbers : (number running : ℕ) (fs : List InputFile) → map (λ s. s.number) (placed_sources number running fs) ≡ numbers_from number (length fs)
unfolding placed_sources placed_source numbers_from
placed-numbers number running [] = refl
placed-numbers number running (f ∷ fs) = ap (λ r. number ∷ r) (placed-numbers (suc number) (place_after running f) fs)

pub packed-read : (files : List InputFile) → Packable files → ReadBack (packed files) files
packed-read files p =
    let s = packed-sources files p in
    let at = 4 + 16 * length files in
    record {
      paths = ap (map (λ s. s.path)) s ∙ placed-paths 0 at files;
      texts = ap (map (λ s. s.text)) s ∙ placed-texts 0 at files;
      numbers = ap (map (λ s. s.number)) s ∙ placed-numbers 0 at files;
    }
