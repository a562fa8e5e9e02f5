-- The other direction: a tree that is laid out is its own files, packed, and a tree that is not refused has files that can be packed.
use Prim.Native.Nat.{ℕ, zero, suc, ◌+◌, ◌*◌, ◌≤◌, ◌<◌}
use Rattle.std.specs.Prelude.{◌≡◌, true}
use Rattle.std.proofs.Math.Path.{refl, ap, ap₂, sym}
use Rattle.std.proofs.Common.{◌∙◌, subst, eqb-true, length-drop, length-take, drop-drop, take-add}
use mathlib.Core.List.{List, [], ◌∷◌, ◌++◌, map, append-nil}
use native.Mathlib.Omega.{arith}
use Rattle.std.proofs.Math.ListN.{drop, length, length-map, take, take-append-drop}
use Rattle.std.proofs.Math.Seq.{drop-length}
use Rattle.text_rules.specs.Bytes.{All, joined}
use Rattle.text_rules.specs.BytesLaws.{All-map, All-mapped, and_left, and_right}
use Rattle.text_rules.specs.U32.{u32_at, u32_bytes}
use Rattle.text_rules.proofs.U32Laws.{u32_back, u32_drop}
use Rattle.text_rules.specs.Utf8.{is_utf8}
use Rattle.gate_rules.proofs.ConditionLaws.{entries-count, entry-fits, laid_out, paths-each, paths_up, texts_spelled, up_rest}
use Rattle.gate_rules.specs.Pack.{InputFile, Packable, input_of, packed, packed_entry, packed_table, packed_texts, place_after}
use Rattle.gate_rules.specs.Table.{EntryLaid}
use Rattle.gate_rules.specs.Tree.{PathsUp, Source, entries_fit, entry_fits, file_count, is_laid_out, is_path, path_length, source_at, sources, sources_from, text_length, text_offset, tree_refusal}
use Rattle.gate_rules.proofs.TreeLaws.{InTree, sources-placed, unrefused}

abbrev Byte : ℕ → Type 0
Byte b = b < 256

drop_bytes : (n : ℕ) (s : List ℕ) → All Byte s → All Byte (drop n s)
drop_bytes zero s h = h
drop_bytes (suc n) [] h = tt
drop_bytes (suc n) (b ∷ s) h = drop_bytes n s h.1

-- four bytes at a place
four-back : (s : List ℕ) (n k : ℕ) → All Byte s → k + 4 ≤ length s → n ≡ u32_at s k → u32_bytes n ≡ take 4 (drop k s)
four-back s n k h l e =
    let z : k + 0 ≡ k = omega arith in
    ap u32_bytes (e ∙ sym (u32_drop k s 0 ∙ ap (u32_at s) z)) ∙ u32_back (drop k s) (drop_bytes k s h) (simp length-drop (omega arith))

-- the next part of a list in front of what follows it
parts-taken : (n m : ℕ) (s : List ℕ) (k : ℕ) → take n (drop k s) ++ take m (drop (k + n) s) ≡ take (n + m) (drop k s)
parts-taken n m s k = ap (λ r. take n (drop k s) ++ take m r) (sym (drop-drop n k s)) ∙ sym (take-add n m (drop k s))

-- sixteen bytes: four numbers
sixteen_back : (s : List ℕ) (a b c d k : ℕ) → All Byte s → k + 16 ≤ length s → a ≡ u32_at s k → b ≡ u32_at s (k + 4) → c ≡ u32_at s (k + 8) → d ≡ u32_at s (k + 12)
    → joined (u32_bytes a ∷ u32_bytes b ∷ u32_bytes c ∷ u32_bytes d ∷ []) ≡ take 16 (drop k s)
sixteen_back s a b c d k h l p q r t =
    let e₁ : k + 4 + 4 ≡ k + 8 = omega arith in
    let e₂ : k + 8 + 4 ≡ k + 12 = omega arith in
    let four₀ = four-back s a k h (omega arith) p in
    let four₁ = four-back s b (k + 4) h (omega arith) q in
    let four₂ = four-back s c (k + 8) h (omega arith) r in
    let four₃ = four-back s d (k + 12) h (omega arith) t in
    let last : u32_bytes d ++ [] ≡ take 4 (drop (k + 12) s) = append-nil (u32_bytes d) ∙ four₃ in
    let third : u32_bytes c ++ (u32_bytes d ++ []) ≡ take 8 (drop (k + 8) s) =
    ap₂ ◌++◌ four₂ (last ∙ ap (λ x. take 4 (drop x s)) (sym e₂)) ∙ parts-taken 4 4 s (k + 8) in
    let second : u32_bytes b ++ (u32_bytes c ++ (u32_bytes d ++ [])) ≡ take 12 (drop (k + 4) s) =
    ap₂ ◌++◌ four₁ (third ∙ ap (λ x. take 8 (drop x s)) (sym e₁)) ∙ parts-taken 4 8 s (k + 4) in
    ap₂ ◌++◌ four₀ second ∙ parts-taken 4 12 s k

module _ (tree : List ℕ) (bytes : All (λ b. b < 256) tree) where
  -- the files of entries that fit
  files_from : (left number entry : ℕ) → List InputFile
  files_from left number entry = map input_of (sources_from tree left number entry)

  -- a file's path and text have the lengths that its entry says
  record Whole (entry running : ℕ) (f : InputFile) : Type 0 where
    path-size : length f.path ≡ path_length tree entry
    text-size : length f.text ≡ text_length tree entry
    path-there : f.path ≡ take (path_length tree entry) (drop running tree)
    text-there : f.text ≡ take (text_length tree entry) (drop (text_offset tree entry) tree)

  whole : (number entry running : ℕ) → EntryLaid tree entry running → Whole entry running (input_of (source_at tree number entry))
  unfolding source_at
  whole number entry running f =
      let a = f.path_offset in
      let b = f.text_offset in
      let c = f.text-inside in
      record {
        path-size = simp (length-take, length-drop) (omega arith);
        text-size = simp (length-take, length-drop) (omega arith);
        path-there = ap (λ k. take (path_length tree entry) (drop k tree)) a;
        text-there = refl;
      }

  texts-back : (left number entry running : ℕ) → entries_fit tree left entry running ≡ true → packed_texts (files_from left number entry) ≡ drop running tree
  unfolding entries_fit sources_from packed_texts files_from
  texts-back zero number entry running e = sym (ap (λ n. drop n tree) (eqb-true running (length tree) e) ∙ drop-length tree)
  texts-back (suc left) number entry running e =
      let f = entry-fits tree entry running (and_left _ _ e) in
      let w = whole number entry running f in
      let to = text_offset tree entry in
      let rest = texts-back left (suc number) (entry + 16) (to + text_length tree entry) (and_right (entry_fits tree entry running) _ e) in
      let text = ap₂ ◌++◌ w.text-there (rest ∙ sym (drop-drop (text_length tree entry) to tree)) ∙ take-append-drop (text_length tree entry) (drop to tree) in
      ap₂ ◌++◌ w.path-there (text ∙ ap (λ n. drop n tree) f.text_offset ∙ sym (drop-drop (path_length tree entry) running tree)) ∙ take-append-drop (path_length tree entry) (drop running tree)

  table-back : (left number entry running : ℕ) → entry + 16 * left ≤ length tree → entries_fit tree left entry running ≡ true
      → packed_table running (files_from left number entry) ≡ take (16 * left) (drop entry tree)
  unfolding entries_fit sources_from packed_table files_from packed_entry
  table-back zero number entry running l e = refl
  table-back (suc left) number entry running l e =
      let f = entry-fits tree entry running (and_left _ _ e) in
      let w = whole number entry running f in
      let a = f.path_offset in
      let b = f.text_offset in
      let p = w.path-size in
      let t = w.text-size in
      let file = input_of (source_at tree number entry) in
      let to = text_offset tree entry + text_length tree entry in
      let next : place_after running file ≡ to = omega arith in
      let sizes : 16 + 16 * left ≡ 16 * suc left = omega arith in
      let head = sixteen_back tree running (length file.path) (running + length file.path) (length file.text) entry bytes (omega arith) (sym a) p (omega arith) t in
      let rest = ap (λ r. packed_table r (files_from left (suc number) (entry + 16))) next ∙ table-back left (suc number) (entry + 16) to (omega arith) (and_right (entry_fits tree entry running) _ e) in
      ap₂ ◌++◌ head rest ∙ parts-taken 16 (16 * left) tree entry ∙ ap (λ n. take n (drop entry tree)) sizes

  inputs_count : (left number entry : ℕ) → length (files_from left number entry) ≡ left
  unfolding files_from
  inputs_count left number entry = length-map (sources_from tree left number entry) input_of ∙ entries-count tree left number entry

  -- a tree that is laid out is its own files, packed
  pub packed-back : is_laid_out tree ≡ true → packed (map input_of (sources tree)) ≡ tree
  unfolding packed sources file_count files_from
  packed-back e =
      let n = file_count tree in
      let l = laid_out tree e in
      let table = l.table in
      let count = inputs_count n 0 4 in
      let head : u32_bytes n ≡ take 4 tree = four-back tree n 0 bytes (omega arith) refl in
      ap (λ k. u32_bytes k ++ (packed_table (4 + 16 * k) (map input_of (sources tree)) ++ packed_texts (map input_of (sources tree)))) count
      ∙ ap₂ ◌++◌ head (ap₂ ◌++◌ (table-back n 0 4 (4 + 16 * n) table l.entries) (texts-back n 0 4 (4 + 16 * n) l.entries ∙ sym (drop-drop (16 * n) 4 tree)) ∙ take-append-drop (16 * n) (drop 4 tree))
      ∙ take-append-drop 4 tree

-- ---- the files of a tree that is not refused can be packed

-- the paths of the files to pack are those of the files
same-paths : (ss : List Source) → map (λ f. f.path) (map input_of ss) ≡ map (λ s. s.path) ss
same-paths [] = refl
same-paths (s ∷ ss) = ap (λ ps. s.path ∷ ps) (same-paths ss)

pub accepted_packable : (tree : List ℕ) → All (λ b. b < 256) tree → tree_refusal tree ≡ 0 → Packable (map input_of (sources tree))
unfolding sources files_from
accepted_packable tree bytes e =
    let t = unrefused tree e in
    let ss = sources tree in
    let placed = sources-placed tree t in
    record {
      few = omega (arith, (laid_out tree t.laid).few, inputs_count tree bytes (file_count tree) 0 4);
      whole = subst (λ r. length r ≤ 16777216) (sym (packed-back tree bytes t.laid)) t.short;
      path-some = All-mapped (λ f. 1 ≤ length f.path) input_of ss (All-map (InTree tree) (λ s. 1 ≤ length s.path) (λ s p. p.path-some) ss placed);
      path-short = All-mapped (λ f. length f.path ≤ 1024) input_of ss (All-map (InTree tree) (λ s. length s.path ≤ 1024) (λ s p. p.path-short) ss placed);
      path-good = All-mapped (λ f. is_path f.path ≡ true) input_of ss (paths-each [] ss t.paths);
      path-order = subst PathsUp (sym (same-paths ss)) (up_rest [] (map (λ s. s.path) ss) (paths_up [] ss t.paths));
      text-good = All-mapped (λ f. is_utf8 f.text ≡ true) input_of ss ((texts_spelled ss).0 t.texts);
    }
