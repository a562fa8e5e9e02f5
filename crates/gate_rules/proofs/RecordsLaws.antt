-- What holds of a tree's records: numbers of 32 bits, names in the tree's own bytes, and the functions that they tell of.
use Rattle.std.specs.Prelude.{ℕ, zero, suc, ◌+◌, ◌*◌, ◌≤◌, ◌<◌, ◌≡◌, refl, List, [], ◌∷◌, ◌++◌, map, drop, get_or}
use Rattle.std.proofs.Math.Path.{ap, sym, subst}
use Rattle.std.proofs.Common.{ap₂, ◌∙◌, ⊎_elim, length-take, length-drop, take-take, get_or-take, get_or-drop, ext_get_or, drop-drop, le-leb}
use native.Mathlib.Omega.{arith}
use Rattle.std.proofs.Math.ListN.{length, take}
use Rattle.std.proofs.lemmas.List.{length-map}
use Rattle.text_rules.specs.Bytes.{All, Plain}
use Rattle.text_rules.specs.BytesLaws.{All-append, map-append}
use Rattle.text_rules.specs.Sizes.{max_tree, record_width}
use Rattle.text_rules.specs.U32.{u32_bytes}
use Rattle.source_rules.specs.Blank.{blanked}
use Rattle.source_rules.proofs.BlankLaws.{blanked-kept, blanked-length}
use Rattle.source_rules.specs.TextScan.{TextFun, functions}
use Rattle.source_rules.proofs.TextScanLaws.{Fine, functions-fine}
use Rattle.gate_rules.specs.Gate.{file_of, fun_of, functions_of_file, functions_of_files, gate}
use Rattle.gate_rules.specs.Records.{name_of, record_bytes, record_of, records, records_in, records_of_files, viewed}
use Rattle.gate_rules.specs.Scan.{functions_of}
use Rattle.gate_rules.specs.Tree.{Source, file_count, path_length, path_of, path_offset, source_at, sources, sources_from}
use Rattle.gate_rules.proofs.TreeLaws.{InTree, SoundTree, sources-placed}

-- a record has 32 bytes
pub record_width_lem : (file : Source) (f : TextFun) → length (record_bytes (record_of file f)) ≡ record_width
unfolding record_bytes record_of u32_bytes
record_width_lem file f = refl

wide-file : (file : Source) (fs : List TextFun) → All (λ r. length (record_bytes r) ≡ record_width) (map (record_of file) fs)
wide-file file [] = tt
wide-file file (f ∷ fs) = (record_width_lem file f, wide-file file fs)

pub records-wide : (files : List Source) → All (λ r. length (record_bytes r) ≡ record_width) (records_of_files files)
unfolding records_of_files records_in
records-wide [] = tt
records-wide (file ∷ files) =
    let fs = functions (blanked file.text) in
    All-append (λ r. length (record_bytes r) ≡ record_width) (map (record_of file) fs) (records_of_files files) (wide-file file fs) (records-wide files)

-- a part of a text that is a name in the blanked text
All_get_d : (xs : List ℕ) → All Plain xs → (i : ℕ) → i < length xs → Plain (get_or xs i 0)
All_get_d [] h i l = absurd (omega arith)
All_get_d (x ∷ xs) h zero l = h.0
All_get_d (x ∷ xs) h (suc i) l = All_get_d xs h.1 i (omega arith)

own_name : (s : List ℕ) (a n : ℕ) → a + n ≤ length s → All Plain (take n (drop a (blanked s))) → take n (drop a s) ≡ take n (drop a (blanked s))
own_name s a n h plain =
    let size : length (take n (drop a s)) ≡ n = simp (length-take, length-drop) (omega arith) in
    let size' : length (take n (drop a (blanked s))) ≡ n = simp (length-take, length-drop, blanked-length) (omega arith) in
    ext_get_or 0 (take n (drop a s)) (take n (drop a (blanked s))) (size ∙ sym size') (λ i l. at i (omega arith) (omega arith))
  where
    at : (i : ℕ) → i < n → i < length (take n (drop a (blanked s))) → get_or (take n (drop a s)) i 0 ≡ get_or (take n (drop a (blanked s))) i 0
    at i l l' =
        let p : Plain (get_or (take n (drop a (blanked s))) i 0) = All_get_d (take n (drop a (blanked s))) plain i l' in
        let here : get_or (take n (drop a s)) i 0 ≡ get_or s (a + i) 0 = get_or-take n (drop a s) i 0 l ∙ get_or-drop a s i 0 in
        let there : get_or (take n (drop a (blanked s))) i 0 ≡ get_or (blanked s) (a + i) 0 = get_or-take n (drop a (blanked s)) i 0 l ∙ get_or-drop a (blanked s) i 0 in
        here ∙ ⊎_elim (λ k. sym k) (λ k. absurd (omega (arith, k.0))) (blanked-kept s (a + i)) ∙ sym there

-- a part of a part
part-of-part : {A : Type 0} (a n l : ℕ) (s : List A) → a + n ≤ l → take n (drop a (take l s)) ≡ take n (drop a s)
part-of-part zero n l s h = take-take n l s (omega arith)
part-of-part (suc a) n zero s h = absurd (omega arith)
part-of-part (suc a) n (suc l) [] h = refl
part-of-part (suc a) n (suc l) (x ∷ s) h = part-of-part a n l s (omega arith)

module _ (tree : List ℕ) (file : Source) (p : InTree tree file) (f : TextFun) (fine : Fine (blanked file.text) f) where
  -- the name in the tree's own bytes is the name in the blanked bytes
  pub name_in_tree : name_of tree (record_of file f) ≡ f.name
  unfolding name_of record_of
  name_in_tree =
      let n = length f.name in
      let size = blanked-length file.text in
      let i = fine.name-inside in
      let j = p.text-inside in
      let inside : file.text_at + f.name_at + n ≤ length tree = omega arith in
      let plain : All Plain (take n (drop f.name_at (blanked file.text))) = subst (All Plain) (sym fine.name-there) fine.name-plain in
      let a : take n (drop (file.text_at + f.name_at) tree) ≡ take n (drop f.name_at (drop file.text_at tree)) = ap (take n) (sym (drop-drop f.name_at file.text_at tree)) in
      let b : take n (drop f.name_at (take (length file.text) (drop file.text_at tree))) ≡ take n (drop f.name_at (drop file.text_at tree)) = part-of-part f.name_at n (length file.text) (drop file.text_at tree) (omega arith) in
      let c : take n (drop f.name_at (take (length file.text) (drop file.text_at tree))) ≡ take n (drop f.name_at file.text) = ap (λ t. take n (drop f.name_at t)) p.text-there in
      rw (le-leb (file.text_at + f.name_at + n) (length tree) inside)
      (a ∙ sym b ∙ c ∙ own_name file.text f.name_at n (omega arith) plain ∙ fine.name-there)

  pub record_u32 : length tree ≤ max_tree → All (λ n. n < 4294967296) (record_of file f)
  unfolding record_of
  record_u32 short =
      let size = blanked-length file.text in
      let a = p.text-inside in
      let b = p.number_small in
      let c = fine.name-inside in
      let d = fine.line-most in
      let e = fine.lines-most in
      let g = fine.cyclomatic-most in
      let h = fine.nesting-most in
      let i = fine.params-most in
      omega arith

-- the numbers of all records of a tree are below 2^32
u32_in_file : (tree : List ℕ) → length tree ≤ max_tree → (file : Source) → InTree tree file → (fs : List TextFun) → All (Fine (blanked file.text)) fs → All (λ r. All (λ n. n < 4294967296) r) (map (record_of file) fs)
u32_in_file tree short file p [] h = tt
u32_in_file tree short file p (f ∷ fs) h = (record_u32 tree file p f h.0 short, u32_in_file tree short file p fs h.1)

u32_in_files : (tree : List ℕ) → length tree ≤ max_tree → (files : List Source) → All (InTree tree) files → All (λ r. All (λ n. n < 4294967296) r) (records_of_files files)
unfolding records_of_files records_in
u32_in_files tree short [] p = tt
u32_in_files tree short (file ∷ files) p =
    All-append (λ r. All (λ n. n < 4294967296) r) (map (record_of file) (functions (blanked file.text))) (records_of_files files)
    (u32_in_file tree short file p.0 (functions (blanked file.text)) (functions-fine (blanked file.text)))
    (u32_in_files tree short files p.1)

pub records_u32 : (tree : List ℕ) → SoundTree tree → All (λ r. All (λ n. n < 4294967296) r) (records tree)
unfolding records
records_u32 tree t = u32_in_files tree t.short (sources tree) (sources-placed tree t)

-- the functions of a tree are those that its records tell of, in the same order
view_one : (tree : List ℕ) (file : Source) → InTree tree file → file.path ≡ path_of tree file.number → (f : TextFun) → Fine (blanked file.text) f → fun_of file.path f ≡ viewed tree (record_of file f)
unfolding viewed fun_of record_of
view_one tree file p q f fine = rw (name_in_tree tree file p f fine, ← q)

view_file : (tree : List ℕ) (file : Source) → InTree tree file → file.path ≡ path_of tree file.number → (fs : List TextFun) → All (Fine (blanked file.text)) fs
    → map (fun_of file.path) fs ≡ map (viewed tree) (map (record_of file) fs)
view_file tree file p q [] h = refl
view_file tree file p q (f ∷ fs) h = ap₂ ◌∷◌ (view_one tree file p q f h.0) (view_file tree file p q fs h.1)

view_files : (tree : List ℕ) (files : List Source) → All (InTree tree) files → All (λ s. s.path ≡ path_of tree s.number) files
    → functions_of_files (map file_of files) ≡ map (viewed tree) (records_of_files files)
unfolding functions_of_files functions_of_file file_of records_of_files records_in
view_files tree [] p q = refl
view_files tree (file ∷ files) p q =
    let here = functions (blanked file.text) in
    ap₂ ◌++◌ (view_file tree file p.0 q.0 here (functions-fine (blanked file.text))) (view_files tree files p.1 q.1)
    ∙ sym (map-append (viewed tree) (map (record_of file) here) (records_of_files files))

paths-from : (tree : List ℕ) (left number entry : ℕ) → entry ≡ 4 + 16 * number → All (λ s. s.path ≡ path_of tree s.number) (sources_from tree left number entry)
unfolding sources_from source_at path_of
paths-from tree zero number entry e = tt
paths-from tree (suc left) number entry e = (
  ap (λ x. take (path_length tree x) (drop (path_offset tree x) tree)) e,
  paths-from tree left (suc number) (entry + 16) (omega arith),
)

pub functions-viewed : (tree : List ℕ) → SoundTree tree → functions_of gate tree ≡ map (viewed tree) (records tree)
unfolding gate records sources
functions-viewed tree t = view_files tree (sources tree) (sources-placed tree t) (paths-from tree (file_count tree) 0 4 refl)

pub records-count : (tree : List ℕ) → SoundTree tree → length (records tree) ≡ length (functions_of gate tree)
records-count tree t = sym (ap length (functions-viewed tree t) ∙ length-map (records tree) (viewed tree))
