-- After blanking, each text of a tree stands blanked at its place in work, and all records are put as far as there is room.
use Rattle.std.specs.Prelude.{ℕ, zero, suc, ◌+◌, ◌*◌, ◌≤◌, ◌<◌, ◌≡◌, List, map, length, take, drop}
use Rattle.std.proofs.Common.{ap, subst, sym, ◌∙◌, arith, length-take, length-drop}
use Rattle.text_rules.specs.Bytes.{All, joined, overwritten}
use Rattle.source_rules.specs.Blank.{blanked}
use Rattle.gate_rules.proofs.BufferLaws.{blank_length, wide-files}
use Rattle.gate_rules.specs.Calls.{room}
use Rattle.gate_rules.proofs.FileLaws.{file-at}
use Rattle.gate_rules.specs.RecordForms.{put_records}
use Rattle.gate_rules.proofs.RecordLaws.{put-records-is}
use Rattle.gate_rules.specs.Records.{blank_into, record_bytes, records}
use Rattle.gate_rules.specs.Tree.{Source, entry_at, file_count, source_at, sources, sources_from, text_in, text_length, text_offset}
use Rattle.gate_rules.proofs.TreeLaws.{SoundTree, sources-placed}
use Rattle.gate_rules.proofs.WorkLaws.{Holds, work-holds}
use Rattle.gate_scan.specs.Told.{TextsIn}

-- what holds of all files holds of the one with a number
file_of_lem : (P : Source → Type 0) (tree : List ℕ) (left number entry k : ℕ) → All P (sources_from tree left number entry) → k < left → P (source_at tree (number + k) (entry + 16 * k))
unfolding sources_from
file_of_lem P tree zero number entry k h l = absurd (omega arith)
file_of_lem P tree (suc left) number entry zero h l =
    let e : number ≡ number + 0 = omega arith in
    let d : entry ≡ entry + 16 * 0 = omega arith in
    subst (λ i. P (source_at tree i (entry + 16 * 0))) e (subst (λ j. P (source_at tree number j)) d h.0)
file_of_lem P tree (suc left) number entry (suc k) h l =
    let e : suc number + k ≡ number + suc k = omega arith in
    let d : entry + 16 + 16 * k ≡ entry + 16 * suc k = omega arith in
    subst (λ i. P (source_at tree i (entry + 16 * suc k))) e (subst (λ j. P (source_at tree (suc number + k) j)) d (file_of_lem P tree left (suc number) (entry + 16) k h.1 (omega arith)))

text_at : (tree work : List ℕ) → SoundTree tree → (k : ℕ) → k < file_count tree → Holds work (source_at tree (0 + k) (4 + 16 * k))
    → take (text_length tree (entry_at k)) (drop (text_offset tree (entry_at k)) work) ≡ blanked (text_in tree (entry_at k))
unfolding source_at
text_at tree work t k h held =
    let f = file-at tree k t.laid h in
    let size : length (take (text_length tree (entry_at k)) (drop (text_offset tree (entry_at k)) tree)) ≡ text_length tree (entry_at k) = simp (length-take, length-drop) (omega (arith, f.text-inside)) in
    ap (λ n. take n (drop (text_offset tree (entry_at k)) work)) (sym size) ∙ held

pub texts_in : (tree work : List ℕ) → SoundTree tree → length tree ≤ length work → TextsIn tree (blank_into (sources tree) work)
unfolding sources
texts_in tree work t h =
    record {
      holds = omega (arith, blank_length tree (sources_from tree (file_count tree) 0 4) work (sources-placed tree t) h);
      there = λ k l. text_at tree (blank_into (sources_from tree (file_count tree) 0 4) work) t k l
          (file_of_lem (Holds (blank_into (sources_from tree (file_count tree) 0 4) work)) tree (file_count tree) 0 4 k (work-holds tree t work h) l);
    }

pub all-put : (tree buffer : List ℕ) → put_records 0 (map record_bytes (records tree)) buffer ≡ overwritten (joined (take (room buffer) (map record_bytes (records tree)))) buffer
unfolding records
all-put tree buffer = put-records-is (map record_bytes (records tree)) (wide-files (sources tree)) buffer
