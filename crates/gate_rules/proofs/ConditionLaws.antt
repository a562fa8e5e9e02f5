-- The conditions of the table are decided by the tests that the calls make: the layout, the paths and the texts spelled out hold exactly
-- where `is_laid_out`, `paths_rise` and `texts_good` say so, and the orders exactly where the comparisons do.
use Rattle.std.specs.Prelude.{ℕ, zero, suc, ◌+◌, ◌*◌, ◌/◌, ◌≤◌, ◌<◌, ◌≡◌, refl, Bool, true, false, not, ◌&&◌, ◌⊎◌, ◌≢◌, ◌↔◌, List, [], ◌∷◌, map, eqb, leb, ltb, length, take, drop, get_or}
use Rattle.std.proofs.Common.{ap, sym, ◌∙◌, inl, inr, arith, length-take, length-drop, eq-eqb, eqb-true, le-leb, leb-true, ltb-false, ltb-true, ne_eqb}
use Rattle.std.proofs.lemmas.Bool.{false≢true, eqb-false, not-false, not-true}
use Rattle.text_rules.specs.Bytes.{All, Lacks}
use Rattle.text_rules.specs.BytesLaws.{All-map, and_left, and_right, whether}
use Rattle.text_rules.specs.Search.{has}
use Rattle.text_rules.specs.Sizes.{max_files, max_path}
use Rattle.text_rules.specs.U32.{u32_at}
use Rattle.text_rules.specs.Utf8.{is_utf8}
use Rattle.gate_rules.specs.Calls.{room}
use Rattle.gate_rules.specs.Functions.{is_comment}
use Rattle.gate_rules.specs.Table.{EntriesLaid, EntryLaid, GoodPaths, Layout, PathFine}
use Rattle.gate_rules.specs.Tree.{PathsUp, Source, entries_fit, entry_fits, file_count, is_laid_out, is_path, path_before, path_length, path_offset, paths_rise, source_at, sources, sources_from, table_end, text_length, text_offset, texts_good}

-- a test decides a condition
pub record Decides (test : Bool) (condition : Type 0) : Type 0 where
  pub holds : test ≡ true → condition
  pub fails : test ≡ false → condition → ⊥

pub less-decides : (a b : ℕ) → Decides (ltb a b) (a < b)
less-decides a b = record { holds = ltb-true a b; fails = λ e h. let l = ltb-false a b e in omega arith }

-- a test that fails, of a condition that does not hold
pub not_decides : (test : Bool) (condition : Type 0) → (test ≡ true) ↔ condition → Decides (not test) (condition → ⊥)
not_decides test condition e =
    record {
      holds = λ t c. false≢true (sym (not-true test t) ∙ e.1 c);
      fails = λ t h. h (e.0 (not-false test t));
    }

-- the least of two bounds is exceeded where one of them is
pub room-decides : (records : List ℕ) (n : ℕ) → Decides (ltb (room records) n) ((8192 < n) ⊎ (length records / 32 < n))
room-decides records n =
    record {
      holds = λ e. either (ltb-true (room records) n e) (whether (ltb 8192 n));
      fails = λ e h. neither (ltb-false (room records) n e) h;
    }
  where
    either : room records < n → (ltb 8192 n ≡ true) ⊎ (ltb 8192 n ≡ false) → (8192 < n) ⊎ (length records / 32 < n)
    either l (inl e) = inl (ltb-true 8192 n e)
    either l (inr e) = let k = ltb-false 8192 n e in inr (omega arith)

    neither : n ≤ room records → (8192 < n) ⊎ (length records / 32 < n) → ⊥
    neither l (inl h) = omega arith
    neither l (inr h) = omega arith

both : {a b : Bool} → a ≡ true → b ≡ true → (a && b) ≡ true
both {a} {b} p q = rw (p, q)

-- THE LAYOUT

-- what the entry says where it fits
pub entry-fits : (tree : List ℕ) (entry running : ℕ) → entry_fits tree entry running ≡ true → EntryLaid tree entry running
unfolding entry_fits
entry-fits tree entry running e =
    let a = and_left _ (leb (text_offset tree entry + text_length tree entry) (length tree)) e in
    let b = and_left _ (eqb (text_offset tree entry) (running + path_length tree entry)) a in
    let c = and_left _ (leb (path_length tree entry) max_path) b in
    record {
      path_offset = eqb-true (path_offset tree entry) running (and_left _ (leb 1 (path_length tree entry)) c);
      path-some = leb-true 1 (path_length tree entry) (and_right (eqb (path_offset tree entry) running) _ c);
      path-short = leb-true (path_length tree entry) max_path (and_right (eqb (path_offset tree entry) running && leb 1 (path_length tree entry)) _ b);
      text_offset = eqb-true (text_offset tree entry) (running + path_length tree entry)
          (and_right (eqb (path_offset tree entry) running && leb 1 (path_length tree entry) && leb (path_length tree entry) max_path) _ a);
      text-inside = leb-true (text_offset tree entry + text_length tree entry) (length tree)
          (and_right (eqb (path_offset tree entry) running && leb 1 (path_length tree entry) && leb (path_length tree entry) max_path && eqb (text_offset tree entry) (running + path_length tree entry)) _ e);
    }

entry-laid : (tree : List ℕ) (entry running : ℕ) → (entry_fits tree entry running ≡ true) ↔ EntryLaid tree entry running
unfolding entry_fits
entry-laid tree entry running = (
  entry-fits tree entry running,
  λ l.
      both (both (both (both
      (eq-eqb (u32_at tree entry) running l.path_offset)
      (le-leb 1 (u32_at tree (entry + 4)) l.path-some))
      (le-leb (u32_at tree (entry + 4)) 1024 l.path-short))
      (eq-eqb (u32_at tree (entry + 8)) (running + u32_at tree (entry + 4)) l.text_offset))
      (le-leb (u32_at tree (entry + 8) + u32_at tree (entry + 12)) (length tree) l.text-inside),
)

entries-laid : (tree : List ℕ) (left entry running : ℕ) → (entries_fit tree left entry running ≡ true) ↔ EntriesLaid tree left entry running
unfolding entries_fit
entries-laid tree zero entry running = (λ e. eqb-true running (length tree) e, λ e. eq-eqb running (length tree) e)
entries-laid tree (suc left) entry running =
    let (to, from) = entry-laid tree entry running in
    let (to', from') = entries-laid tree left (entry + 16) (u32_at tree (entry + 8) + u32_at tree (entry + 12)) in (
      λ e. (to (and_left _ _ e), to' (and_right (entry_fits tree entry running) _ e)),
      λ l. both (from l.0) (from' l.1),
    )

-- the parts of the layout's test
pub record LaidOut (tree : List ℕ) : Type 0 where
  pub few : file_count tree ≤ max_files
  pub table : table_end tree ≤ length tree
  pub entries : entries_fit tree (file_count tree) 4 (table_end tree) ≡ true

pub laid_out : (tree : List ℕ) → is_laid_out tree ≡ true → LaidOut tree
unfolding is_laid_out
laid_out tree e =
    let a = and_left _ (entries_fit tree (file_count tree) 4 (table_end tree)) e in
    record {
      few = leb-true (file_count tree) max_files (and_right (leb 4 (length tree)) _ (and_left _ (leb (table_end tree) (length tree)) a));
      table = leb-true (table_end tree) (length tree) (and_right (leb 4 (length tree) && leb (file_count tree) max_files) _ a);
      entries = and_right (leb 4 (length tree) && leb (file_count tree) max_files && leb (table_end tree) (length tree)) _ e;
    }

pub layout_spelled : (tree : List ℕ) → (is_laid_out tree ≡ true) ↔ Layout tree
unfolding is_laid_out file_count
layout_spelled tree =
    let (to, from) = entries-laid tree (u32_at tree 0) 4 (4 + 16 * u32_at tree 0) in (
      λ e. let l = laid_out tree e in
          let table = l.table in
          record {
            count-there = omega arith;
            count_small = l.few;
            table-inside = l.table;
            entries-laid = to l.entries;
          },
      λ l.
          both (both (both
          (le-leb 4 (length tree) l.count-there)
          (le-leb (u32_at tree 0) 1024 l.count_small))
          (le-leb (4 + 16 * u32_at tree 0) (length tree) l.table-inside))
          (from l.entries-laid),
    )

-- THE FILES: as many as the layout counts, each read from its entry of 16 bytes

pub entries-count : (tree : List ℕ) (left number entry : ℕ) → length (sources_from tree left number entry) ≡ left
unfolding sources_from
entries-count tree zero number entry = refl
entries-count tree (suc left) number entry = ap suc (entries-count tree left (suc number) (entry + 16))

pub files-count : (tree : List ℕ) → length (sources tree) ≡ u32_at tree 0
unfolding sources file_count
files-count tree = entries-count tree (u32_at tree 0) 0 4

-- the file that an entry tells of
abbrev pub entry_file : List ℕ → (number : ℕ) → Source
entry_file tree number =
    let entry = 4 + 16 * number in
    record {
      number = number;
      path = take (u32_at tree (entry + 4)) (drop (u32_at tree entry) tree);
      text = take (u32_at tree (entry + 12)) (drop (u32_at tree (entry + 8)) tree);
      text_at = u32_at tree (entry + 8);
    }

there-from : (tree : List ℕ) (left number k : ℕ) (absent : Source) → k < left → get_or (sources_from tree left number (4 + 16 * number)) k absent ≡ entry_file tree (number + k)
unfolding sources_from source_at
there-from tree zero number k absent h = absurd (omega arith)
there-from tree (suc left) number zero absent h = let e : number ≡ number + 0 = omega arith in ap (entry_file tree) e
there-from tree (suc left) number (suc k) absent h =
    let entry : 4 + 16 * number + 16 ≡ 4 + 16 * suc number = omega arith in
    let e : suc number + k ≡ number + suc k = omega arith in
    ap (λ at. get_or (sources_from tree left (suc number) at) k absent) entry ∙ there-from tree left (suc number) k absent (omega arith) ∙ ap (entry_file tree) e

pub file-there : (tree : List ℕ) (k : ℕ) (absent : Source) → k < u32_at tree 0 → get_or (sources tree) k absent ≡ entry_file tree k
unfolding sources file_count
file-there tree k absent h = let e : 0 + k ≡ k = omega arith in there-from tree (u32_at tree 0) 0 k absent h ∙ ap (entry_file tree) e

-- THE PATHS

lacks-has : (x : ℕ) (s : List ℕ) → Lacks x s → has x s ≡ false
unfolding has
lacks-has x [] h = refl
lacks-has x (b ∷ s) h = rw (ne_eqb b x h.0) (lacks-has x s h.1)

pub uncommented : (path : List ℕ) → (is_comment path ≡ false) ↔ (get_or path 0 0 ≢ 35)
unfolding is_comment
uncommented [] = (λ e. omega arith, λ h. refl)
uncommented (b ∷ s) = (λ e. eqb-false b 35 e, λ h. ne_eqb b 35 h)

lacks : (x : ℕ) (s : List ℕ) → has x s ≡ false → Lacks x s
unfolding has
lacks x [] e = tt
lacks x (b ∷ s) e =
    elim (whether (eqb b x)) [
      | inl t ↦ let h : true ≡ false = rw t at e in let z : ◌≡◌ {A = ℕ} 0 1 = cc in absurd (omega arith)
      | inr t ↦ (eqb-false b x t, lacks x s (rw t at e))
    ]

pub path_spelled : (path : List ℕ) → (is_path path ≡ true) ↔ PathFine path
unfolding is_path
path_spelled path = (
  λ e.
      let a = and_left _ (is_utf8 path) e in
      let b = and_left _ (not (is_comment path)) a in
      record {
        no-tab = lacks 9 path (not-true _ (and_left _ (not (has 10 path)) b));
        no-LF = lacks 10 path (not-true _ (and_right (not (has 9 path)) _ b));
        no-hash = (uncommented path).0 (not-true _ (and_right (not (has 9 path) && not (has 10 path)) _ a));
        utf8 = and_right (not (has 9 path) && not (has 10 path) && not (is_comment path)) _ e;
      },
  λ g. rw (lacks-has 9 path g.no-tab, lacks-has 10 path g.no-LF, (uncommented path).1 g.no-hash, g.utf8),
)

-- paths that rise behind a last one: each is good, and stands behind the one before
pub paths-each : (last : List ℕ) (fs : List Source) → paths_rise last fs ≡ true → All (λ f. is_path f.path ≡ true) fs
unfolding paths_rise
paths-each last [] e = tt
paths-each last (f ∷ fs) e = (
  and_left _ (path_before last f.path) (and_left _ (paths_rise f.path fs) e),
  paths-each f.path fs (and_right (is_path f.path && path_before last f.path) _ e),
)

pub paths_up : (last : List ℕ) (fs : List Source) → paths_rise last fs ≡ true → PathsUp (last ∷ map (λ f. f.path) fs)
unfolding paths_rise
paths_up last [] e = tt
paths_up last (f ∷ fs) e = (
  and_right (is_path f.path) _ (and_left _ (paths_rise f.path fs) e),
  paths_up f.path fs (and_right (is_path f.path && path_before last f.path) _ e),
)

pub paths-rise : (last : List ℕ) (fs : List Source) → All (λ f. is_path f.path ≡ true) fs → PathsUp (last ∷ map (λ f. f.path) fs) → paths_rise last fs ≡ true
unfolding paths_rise
paths-rise last [] h u = refl
paths-rise last (f ∷ fs) h u = both (both h.0 u.0) (paths-rise f.path fs h.1 u.1)

pub paths-good : (last : List ℕ) (fs : List Source) → paths_rise last fs ≡ true → All (λ f. PathFine f.path) fs
paths-good last fs e = All-map (λ f. is_path f.path ≡ true) (λ f. PathFine f.path) (λ f g. (path_spelled f.path).0 g) fs (paths-each last fs e)

-- without the first
pub up_rest : (p : List ℕ) (ps : List (List ℕ)) → PathsUp (p ∷ ps) → PathsUp ps
up_rest p [] u = tt
up_rest p (q ∷ ps) u = u.1

-- a path that has a byte stands behind the empty path
pub behind-empty : (path : List ℕ) → 1 ≤ length path → path_before [] path ≡ true
unfolding path_before
behind-empty [] h = absurd (omega arith)
behind-empty (b ∷ path) h = refl

-- and so does the first path of a laid_out tree
first-behind : (tree : List ℕ) (left number entry running : ℕ) → EntriesLaid tree left entry running
    → let paths = map (λ f. f.path) (sources_from tree left number entry) in PathsUp paths → PathsUp ([] ∷ paths)
unfolding sources_from source_at
first-behind tree zero number entry running l u = tt
first-behind tree (suc left) number entry running l u =
    let a = l.0.path_offset in
    let b = l.0.path-some in
    let c = l.0.text_offset in
    let d = l.0.text-inside in
    (behind-empty (take (u32_at tree (entry + 4)) (drop (u32_at tree entry) tree)) (simp (length-take, length-drop) (omega arith)), u)

pub paths_spelled : (tree : List ℕ) → Layout tree → (paths_rise [] (sources tree) ≡ true) ↔ GoodPaths (sources tree)
unfolding sources file_count
paths_spelled tree l = (
  λ e. record { fine = paths-good [] (sources tree) e; rising = up_rest [] (map (λ f. f.path) (sources tree)) (paths_up [] (sources tree) e) },
  λ g.
      paths-rise [] (sources tree)
      (All-map (λ f. PathFine f.path) (λ f. is_path f.path ≡ true) (λ f h. (path_spelled f.path).1 h) (sources tree) g.fine)
      (first-behind tree (u32_at tree 0) 0 4 (4 + 16 * u32_at tree 0) l.entries-laid g.rising),
)

-- THE TEXTS

pub texts_spelled : (fs : List Source) → (texts_good fs ≡ true) ↔ All (λ f. is_utf8 f.text ≡ true) fs
unfolding texts_good
texts_spelled [] = (λ e. tt, λ h. refl)
texts_spelled (f ∷ fs) = let (to, from) = texts_spelled fs in (λ e. (and_left _ _ e, to (and_right (is_utf8 f.text) _ e)), λ h. both h.0 (from h.1))
