-- What is written into a buffer keeps its length: the blanked texts into work, and the records.
use Rattle.std.specs.Prelude.{ℕ, zero, suc, ◌*◌, ◌≤◌, ◌≡◌, refl, List, [], ◌∷◌, map, length, take}
use Rattle.std.proofs.Common.{◌∙◌, arith, length-append, length-drop}
use Rattle.text_rules.specs.Bytes.{All, joined, overwritten, put_at}
use Rattle.text_rules.specs.BytesLaws.{All-mapped}
use Rattle.text_rules.proofs.PutLaws.{put-length}
use Rattle.text_rules.specs.Sizes.{record_width}
use Rattle.source_rules.specs.Blank.{blanked}
use Rattle.source_rules.proofs.BlankLaws.{blanked-length}
use Rattle.gate_rules.specs.Calls.{room}
use Rattle.gate_rules.specs.Gate.{gate}
use Rattle.gate_rules.specs.Records.{blank_into, record_bytes, records, records_of_files}
use Rattle.gate_rules.proofs.RecordsLaws.{records-wide}
use Rattle.gate_rules.specs.Table.{tree_rows}
use Rattle.gate_rules.proofs.TableLaws.{at_most, tree-first}
use Rattle.gate_rules.specs.Tree.{Source, sources, tree_refusal}
use Rattle.gate_rules.proofs.TreeLaws.{InTree}

pub overwritten-length : (bytes buffer : List ℕ) → length bytes ≤ length buffer → length (overwritten bytes buffer) ≡ length buffer
overwritten-length bytes buffer h = simp (length-append, length-drop) (omega arith)

pub blank_length : (tree : List ℕ) (files : List Source) (work : List ℕ) → All (InTree tree) files → length tree ≤ length work → length (blank_into files work) ≡ length work
unfolding blank_into
blank_length tree [] work p h = refl
blank_length tree (file ∷ files) work p h =
    let same : length (put_at file.text_at (blanked file.text) work) ≡ length work = put-length file.text_at (blanked file.text) work (omega (arith, p.0.text-inside, blanked-length file.text)) in
    blank_length tree files (put_at file.text_at (blanked file.text) work) p.1 (omega arith) ∙ same

-- records are of one width
pub wide-files : (files : List Source) → All (λ r. length r ≡ record_width) (map record_bytes (records_of_files files))
wide-files files = All-mapped (λ r. length r ≡ record_width) record_bytes (records_of_files files) (records-wide files)

pub wide-joined : (n : ℕ) (rs : List (List ℕ)) → All (λ r. length r ≡ record_width) rs → length (joined (take n rs)) ≤ record_width * n
wide-joined zero rs h = omega arith
wide-joined (suc n) [] h = omega arith
wide-joined (suc n) (r ∷ rs) h = simp length-append (omega (arith, h.0, wide-joined n rs h.1))

pub records-length : (tree records' : List ℕ) → length (overwritten (joined (take (room records') (gate.records_of tree))) records') ≡ length records'
unfolding gate records
records-length tree records' =
    overwritten-length (joined (take (room records') (map record_bytes (records_of_files (sources tree))))) records'
    (omega (arith, wide-joined (room records') (map record_bytes (records_of_files (sources tree))) (wide-files (sources tree))))

-- a tree's own refusals end at 4
pub refusal-most : (tree : List ℕ) → tree_refusal tree ≤ 4
refusal-most tree = at_most 4 (tree_refusal tree) (tree_rows tree) (omega arith) (tree-first tree)
