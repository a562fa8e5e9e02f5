-- A record that is read from the bytes in which the records of a tree stand tells of the function with its number.
use Prim.Native.Nat.{ℕ, zero, suc, ◌+◌, ◌*◌, ◌≤◌, ◌<◌}
use mathlib.Core.Bool.{true}
use mathlib.Core.Path.{◌≡◌, refl, ap, ap₂, sym, ◌∙◌}
use mathlib.Core.List.{List, [], ◌∷◌, ◌++◌, append_assoc, map}
use native.Mathlib.Omega.{arith}
use lib.ListN.{length, drop, get_or, length-append, length-take, take-append-drop, get_or-map}
use lib.Seq.{drop_at}
use borrow.Author.Tests.{le-leb}
use Rattle.text_rules.specs.Bytes.{All, joined}
use Rattle.text_rules.specs.BytesLaws.{All-append}
use Rattle.text_rules.specs.Search.{part}
use Rattle.text_rules.specs.Sizes.{max_tree, record_width}
use Rattle.text_rules.specs.U32.{u32_at, u32_bytes}
use Rattle.text_rules.proofs.U32Laws.{u32_drop, u32_read}
use Rattle.source_rules.specs.Blank.{blanked}
use Rattle.source_rules.proofs.BlankLaws.{blanked-length}
use Rattle.source_rules.specs.TextScan.{TextFun, functions}
use Rattle.source_rules.proofs.TextScanLaws.{Fine, functions-fine}
use Rattle.gate_rules.proofs.FileLaws.{span-is}
use Rattle.gate_rules.specs.Functions.{Fun}
use Rattle.gate_rules.specs.Gate.{gate}
use Rattle.gate_rules.specs.Records.{name_of, record_bytes, record_of, records, records_in, records_of_files, viewed}
use Rattle.gate_rules.proofs.RecordsLaws.{functions-viewed, record_u32, records-count}
use Rattle.gate_rules.specs.Scan.{functions_of}
use Rattle.gate_rules.specs.Tree.{Source, entry_at, file_count, is_laid_out, path_length, path_of, path_offset, source_at, sources, sources_from}
use Rattle.gate_rules.proofs.TreeLaws.{InTree, SoundTree, sources-placed, unrefused}
use Rattle.records.specs.Record.{ReadAt}
use Rattle.records.specs.declared.Record.{Record}
use Rattle.functions.specs.Shown.{Bounded, Stand, no_fun}
use Rattle.functions.specs.declared.Places.{Places}

-- what holds of a record of a tree
pub record Tells (tree r : List ℕ) : Type 0 where
  pub eight : length r ≡ 8
  pub wide : length (record_bytes r) ≡ record_width
  pub small : All (λ n. n < 4294967296) r
  pub file-there : get_or r 0 0 < file_count tree
  pub name-inside : get_or r 1 0 + get_or r 2 0 ≤ length tree

module _ (tree : List ℕ) (short : length tree ≤ max_tree) where
  tells : (file : Source) → InTree tree file → file.number < file_count tree → (f : TextFun) → Fine (blanked file.text) f → Tells tree (record_of file f)
  unfolding record_of record_bytes u32_bytes
  tells file p n f fine =
      record {
        eight = refl;
        wide = refl;
        small = record_u32 tree file p f fine short;
        file-there = n;
        name-inside = omega (arith, blanked-length file.text, fine.name-inside, p.text-inside);
      }

  in_file : (file : Source) → InTree tree file → file.number < file_count tree → (fs : List TextFun) → All (Fine (blanked file.text)) fs → All (Tells tree) (map (record_of file) fs)
  in_file file p n [] h = tt
  in_file file p n (f ∷ fs) h = (tells file p n f h.0, in_file file p n fs h.1)

  in_files : (files : List Source) → All (InTree tree) files → All (λ s. s.number < file_count tree) files → All (Tells tree) (records_of_files files)
  unfolding records_of_files records_in
  in_files [] p n = tt
  in_files (file ∷ files) p n =
      All-append (Tells tree) (map (record_of file) (functions (blanked file.text))) (records_of_files files)
      (in_file file p.0 n.0 (functions (blanked file.text)) (functions-fine (blanked file.text))) (in_files files p.1 n.1)

numbers-from : (tree : List ℕ) (left number entry : ℕ) → number + left ≤ file_count tree → All (λ s. s.number < file_count tree) (sources_from tree left number entry)
unfolding sources_from source_at
numbers-from tree zero number entry h = tt
numbers-from tree (suc left) number entry h = (omega arith, numbers-from tree left (suc number) (entry + 16) (omega arith))

all_tell : (tree : List ℕ) → SoundTree tree → All (Tells tree) (records tree)
unfolding records sources
all_tell tree t = in_files tree t.short (sources tree) (sources-placed tree t) (numbers-from tree (file_count tree) 0 4 (omega arith))

past_one : (n : ℕ) (s rest : List ℕ) → drop 4 ((u32_bytes n ++ s) ++ rest) ≡ s ++ rest
unfolding u32_bytes
past_one n s rest = refl

-- a number of a record's bytes, and one of the bytes of many
read_number : (ns rest : List ℕ) → All (λ n. n < 4294967296) ns → (j : ℕ) → j < length ns → u32_at (joined (map u32_bytes ns) ++ rest) (4 * j) ≡ get_or ns j 0
read_number [] rest h j l = absurd (omega arith)
read_number (n ∷ ns) rest h zero l = ap (λ s. u32_at s 0) (append_assoc (u32_bytes n) (joined (map u32_bytes ns)) rest) ∙ u32_read n (joined (map u32_bytes ns) ++ rest) h.0
read_number (n ∷ ns) rest h (suc j) l =
    let e : 4 * suc j ≡ 4 + 4 * j = omega arith in
    ap (u32_at (joined (map u32_bytes (n ∷ ns)) ++ rest)) e
    ∙ sym (u32_drop 4 (joined (map u32_bytes (n ∷ ns)) ++ rest) (4 * j))
    ∙ ap (λ s. u32_at s (4 * j)) (past_one n (joined (map u32_bytes ns)) rest)
    ∙ read_number ns rest h.1 j (omega arith)

module _ (tree : List ℕ) where
  read_record : (rs : List (List ℕ)) → All (Tells tree) rs → (rest : List ℕ) (k j : ℕ) → k < length rs → j < 8
      → u32_at (joined (map record_bytes rs) ++ rest) (k * record_width + 4 * j) ≡ get_or (get_or rs k []) j 0
  unfolding record_bytes
  read_record [] h rest k j l m = absurd (omega arith)
  read_record (r ∷ rs) h rest zero j l m =
      let e : 0 * record_width + 4 * j ≡ 4 * j = omega arith in
      ap (u32_at (joined (map record_bytes (r ∷ rs)) ++ rest)) e
      ∙ ap (λ s. u32_at s (4 * j)) (append_assoc (record_bytes r) (joined (map record_bytes rs)) rest)
      ∙ read_number r (joined (map record_bytes rs) ++ rest) h.0.small j (omega (arith, h.0.eight))
  read_record (r ∷ rs) h rest (suc k) j l m =
      let e : suc k * record_width + 4 * j ≡ record_width + (k * record_width + 4 * j) = omega arith in
      let later = joined (map record_bytes rs) ++ rest in
      ap (u32_at (joined (map record_bytes (r ∷ rs)) ++ rest)) e
      ∙ ap (λ s. u32_at s (record_width + (k * record_width + 4 * j))) (append_assoc (record_bytes r) (joined (map record_bytes rs)) rest)
      ∙ sym (u32_drop record_width (record_bytes r ++ later) (k * record_width + 4 * j))
      ∙ ap (λ s. u32_at s (k * record_width + 4 * j)) (drop_at (record_bytes r) later record_width h.0.wide)
      ∙ read_record rs h.1 rest k j (omega arith) m

  many-wide : (rs : List (List ℕ)) → All (Tells tree) rs → length (joined (map record_bytes rs)) ≡ record_width * length rs
  many-wide [] h = refl
  many-wide (r ∷ rs) h = length-append (record_bytes r) (joined (map record_bytes rs)) ∙ (omega (arith, h.0.wide, many-wide rs h.1))

-- what stands at a place that a list has
pub at_place : {A : Type 0} (P : A → Type 0) (xs : List A) → All P xs → (d : A) (k : ℕ) → k < length xs → P (get_or xs k d)
at_place P [] h d k l = absurd (omega arith)
at_place P (x ∷ xs) h d zero l = h.0
at_place P (x ∷ xs) h d (suc k) l = at_place P xs h.1 d k (omega arith)

any-default : {A : Type 0} (xs : List A) (d e : A) (k : ℕ) → k < length xs → get_or xs k d ≡ get_or xs k e
any-default [] d e k l = absurd (omega arith)
any-default (x ∷ xs) d e zero l = refl
any-default (x ∷ xs) d e (suc k) l = any-default xs d e k (omega arith)

module _ (tree lent : List ℕ) (st : Stand tree lent) (k : ℕ) (h : k < length (functions_of gate tree)) where
  -- the record with the number
  abbrev pub here : List ℕ
  here = get_or (records tree) k []

  sound : SoundTree tree
  sound = unrefused tree st.unrefused

  there : k < length (records tree)
  there = omega (arith, records-count tree sound)

  pub tells-here : Tells tree here
  tells-here = at_place (Tells tree) (records tree) (all_tell tree sound) [] k there

  pub inside : k * record_width + record_width ≤ length lent
  inside =
      let size = sym (length-take (record_width * length (records tree)) lent) ∙ ap length st.there ∙ many-wide tree (records tree) (all_tell tree sound) in
      omega (arith, there)

  pub number_at : (j p : ℕ) → j < 8 → p ≡ k * record_width + 4 * j → u32_at lent p ≡ get_or here j 0
  number_at j p m e =
      let n = record_width * length (records tree) in
      ap (u32_at lent) e
      ∙ ap (λ s. u32_at s (k * record_width + 4 * j)) (sym (take-append-drop n lent) ∙ ap (λ s. s ++ drop n lent) st.there)
      ∙ read_record tree (records tree) (all_tell tree sound) (drop n lent) k j there m

  function_here : viewed tree here ≡ get_or (functions_of gate tree) k no_fun
  function_here =
      sym (get_or-map (viewed tree) (records tree) k [])
      ∙ ap (λ fs. get_or fs k (viewed tree [])) (sym (functions-viewed tree sound))
      ∙ any-default (functions_of gate tree) (viewed tree []) no_fun k h

  -- path and name by their bounds, and the numbers
  pub record Bounds (f : Fun) (path_at path_end name_at name_end : ℕ) : Type 0 where
    pub path-is : f.path ≡ part path_at path_end tree
    pub name-is : f.name ≡ part name_at name_end tree
    pub path-first : path_at ≡ path_offset tree (entry_at (get_or here 0 0))
    pub path-last : path_end ≡ path_offset tree (entry_at (get_or here 0 0)) + path_length tree (entry_at (get_or here 0 0))
    pub name-first : name_at ≡ get_or here 1 0
    pub name-last : name_end ≡ get_or here 1 0 + get_or here 2 0
    pub line-is : f.line ≡ get_or here 3 0
    pub lines-is : f.lines ≡ get_or here 4 0
    pub cyclomatic-is : f.cyclomatic ≡ get_or here 5 0
    pub nesting-is : f.nesting ≡ get_or here 6 0
    pub params_is : f.params ≡ get_or here 7 0

  pub shown-is : (f : Fun) (path_at path_end name_at name_end : ℕ) → Bounds f path_at path_end name_at name_end → f ≡ get_or (functions_of gate tree) k no_fun
  unfolding viewed path_of name_of
  shown-is f path_at path_end name_at name_end b =
      let path : f.path ≡ path_of tree (get_or here 0 0) =
      b.path-is ∙ span-is tree (path_offset tree (entry_at (get_or here 0 0))) (path_length tree (entry_at (get_or here 0 0))) path_at path_end b.path-first b.path-last in
      let name : f.name ≡ name_of tree here =
      b.name-is
      ∙ span-is tree (get_or here 1 0) (get_or here 2 0) name_at name_end b.name-first b.name-last
      ∙ rw (le-leb (get_or here 1 0 + get_or here 2 0) (length tree) tells-here.name-inside) in
      let same : f ≡ viewed tree here =
      λ i. record { path = path i; name = name i; line = b.line-is i; lines = b.lines-is i; cyclomatic = b.cyclomatic-is i; nesting = b.nesting-is i; params = b.params_is i } in
      same ∙ function_here

  -- the record that is read from its place
  module _ (r : Record) (e : ReadAt lent (k * record_width) r) where
    file-here : r.file ≡ get_or here 0 0
    file-here = e.file-is ∙ number_at 0 _ (omega arith) (omega arith)

    -- its file has the function's path
    pub path-here : (get_or (functions_of gate tree) k no_fun).path ≡ path_of tree r.file
    unfolding viewed
    path-here = ap (λ f. f.path) (sym function_here) ∙ ap (path_of tree) (sym file-here)

    start-here : r.start ≡ get_or here 1 0
    start-here = e.start_is ∙ number_at 1 _ (omega arith) (omega arith)

    len-here : r.len ≡ get_or here 2 0
    len-here = e.len_is ∙ number_at 2 _ (omega arith) (omega arith)

    pub in_tree : (is_laid_out tree ≡ true) × (r.file < file_count tree) × (r.start + r.len ≤ length tree)
    in_tree = (sound.laid, omega (arith, file-here, tells-here.file-there), omega (arith, start-here, len-here, tells-here.name-inside))

    -- path and name by the places of which it tells, and its numbers
    module _ (p : Places) (b : Bounded tree r p) where
      abbrev read : Fun
      read =
          record {
            path = part p.path_at p.path_end tree;
            name = part p.name_at p.name_end tree;
            line = r.line;
            lines = r.lines;
            cyclomatic = r.cyclomatic;
            nesting = r.nesting;
            params = r.params;
          }

      pub read-is : read ≡ get_or (functions_of gate tree) k no_fun
      read-is =
          shown-is read p.path_at p.path_end p.name_at p.name_end
          record {
            path-is = refl;
            name-is = refl;
            path-first = b.path-first ∙ ap (λ n. path_offset tree (entry_at n)) file-here;
            path-last = b.path-last ∙ ap (λ n. path_offset tree (entry_at n) + path_length tree (entry_at n)) file-here;
            name-first = b.name-first ∙ start-here;
            name-last = b.name-last ∙ ap₂ ◌+◌ start-here len-here;
            line-is = e.line-is ∙ number_at 3 _ (omega arith) (omega arith);
            lines-is = e.lines-is ∙ number_at 4 _ (omega arith) (omega arith);
            cyclomatic-is = e.cyclomatic-is ∙ number_at 5 _ (omega arith) (omega arith);
            nesting-is = e.nesting-is ∙ number_at 6 _ (omega arith) (omega arith);
            params_is = e.params_is ∙ number_at 7 _ (omega arith) (omega arith);
          }
