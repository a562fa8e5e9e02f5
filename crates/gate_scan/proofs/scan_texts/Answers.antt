-- `gate_scan::scan_texts` meets its contract: the records of the files that are left, put into what the buffer has become, are those of all files
-- put into what it was.
use Prim.Native.Nat.{ℕ, ◌+◌, ◌-◌, ◌≤◌, ◌<◌}
use mathlib.Core.Path.{◌≡◌, refl, ap, ap₂, sym, ◌∙◌}
use mathlib.Core.List.{List, map}
use native.Mathlib.Omega.{arith}
use lib.ListN.{length, take, drop, length-take, length-drop}
use Rattle.text_rules.specs.Search.{part}
use Rattle.source_rules.specs.Blank.{blanked}
use Rattle.source_rules.proofs.BlankLaws.{blanked-length}
use Rattle.source_rules.specs.TextScan.{functions}
use Rattle.source_rules.proofs.TextScanLaws.{count_fits}
use Rattle.gate_rules.proofs.FileLaws.{count-inside, file-at, span-is}
use Rattle.gate_rules.specs.RecordForms.{put_records}
use Rattle.gate_rules.specs.Records.{record_bytes, records, records_of_files}
use Rattle.gate_rules.specs.Tree.{entry_at, file_count, sources, sources_from, text_in, text_length, text_offset}
use Rattle.gate_scan.specs.Told.{TextsIn, left-count, left_end, left-put, records-kept, records_for}
use Rattle.gate_scan.proofs.scan_texts.Invariants.{rest}
use Rattle.gate_scan.proofs.scan_texts.Goals as goal

-- the part of work that is handed on is the blanked text
text-there : (tree work : List ℕ) (k from to : ℕ) → TextsIn tree work → k < file_count tree → from ≡ text_offset tree (entry_at k) → to ≡ text_offset tree (entry_at k) + text_length tree (entry_at k)
    → part from to work ≡ blanked (text_in tree (entry_at k))
text-there tree work k from to t h e d = span-is work (text_offset tree (entry_at k)) (text_length tree (entry_at k)) from to e d ∙ t.there k h

-- a text has no more functions than bytes
few : (tree : List ℕ) (k : ℕ) → length (functions (blanked (text_in tree (entry_at k)))) ≤ length tree
few tree k =
    let text = text_in tree (entry_at k) in
    let short : length (take (text_length tree (entry_at k)) (drop (text_offset tree (entry_at k)) tree)) ≤ length tree = simp (length-take, length-drop) (omega arith) in
    omega (arith, count_fits (blanked text), blanked-length text)

part-size : (from to : ℕ) (s : List ℕ) → from ≤ to → from + length (take (to - from) (drop from s)) ≤ to
part-size from to s h = simp length-take (omega arith)

pub file_count-n-requires : goal.file_count-n-requires
file_count-n-requires c = count-inside c.args.tree.now c.requires.0

pub loop-file-init : goal.loop-file-init
unfolding records sources
loop-file-init c =
    let tree = c.args.tree.now in
    let n = c.file_count-n.result in
    let e : n - 0 ≡ file_count tree = omega (arith, c.file_count-n.ensures) in
    let all : rest tree n 0 ≡ records_of_files (sources_from tree (file_count tree) 0 4) = ap (λ m. records_of_files (sources_from tree m 0 4)) e in
    let same = ap (λ rs. put_records 0 (map record_bytes rs) c.args.lent.now) all in
    (omega arith, refl, omega arith, omega (arith, ap length all), same)

pub text_span-text-requires : goal.text_span-text-requires
text_span-text-requires c =
    (c.requires.0, omega (arith, c.file_count-n.ensures))

pub slice_bounds-scan_text-end : goal.slice_bounds-scan_text-end
slice_bounds-scan_text-end c =
    omega (arith, c.text_span-text.ensures.3, c.requires.2.holds)

pub scan_text-done-requires : goal.scan_text-done-requires
scan_text-done-requires c =
    let tree = c.args.tree.now in
    let t = c.text_span-text.ensures in
    let f = file-at tree c.loop-file.file c.requires.0 (omega (arith, c.file_count-n.ensures)) in
    let few-files = f.number_small in
    let inside = part-size c.text_span-text.result.start c.text_span-text.result.end c.args.work.now t.2 in
    (omega arith, omega (arith, inside, t.3, c.requires.1), omega (arith, c.loop-file.invariant.2))

pub loop-file-preserved : goal.loop-file-preserved
loop-file-preserved c =
    let tree = c.args.tree.now in
    let work = c.args.work.now in
    let n = c.file_count-n.result in
    let k = c.loop-file.file in
    let done = c.loop-file.done in
    let lent = c.loop-file.lent in
    let count = c.file_count-n.ensures in
    let h : k < n = omega arith in
    let t = c.text_span-text.ensures in
    let text = text-there tree work k _ _ c.requires.2 (omega arith) t.0 t.1 in
    let here = functions (blanked (text_in tree (entry_at k))) in
    let size : c.scan_text-done.result ≡ done + length here = c.scan_text-done.ensures.0 ∙ ap (λ x. done + length (functions x)) text in
    let put = c.scan_text-done.ensures.1 ∙ ap₂ (λ at x. put_records done (records_for k at (functions x)) lent) t.0 text in (
      omega arith,
      ap length put ∙ records-kept k (text_offset tree (entry_at k)) here done lent ∙ c.loop-file.invariant.1,
      omega (arith, c.loop-file.invariant.2, few tree k, c.requires.1),
      omega (arith, c.loop-file.invariant.3, left-count tree n k h),
      ap₂ (λ m buffer. put_records m (map record_bytes (rest tree n (k + 1))) buffer) size put ∙ sym (left-put tree n k h done lent) ∙ c.loop-file.invariant.4,
    )

pub shape_of-lent : goal.shape_of-lent
shape_of-lent c = c.loop-file.invariant.1

pub returns : goal.returns
unfolding put_records
returns c =
    let tree = c.args.tree.now in
    let none = left_end tree c.file_count-n.result c.loop-file.file (omega arith) in
    let zero : length (rest tree c.file_count-n.result c.loop-file.file) ≡ 0 = ap length none in
    (omega (arith, c.loop-file.invariant.3), sym (ap (λ rs. put_records c.loop-file.done (map record_bytes rs) c.loop-file.lent) none) ∙ c.loop-file.invariant.4)
