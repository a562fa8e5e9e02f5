-- After a scan with room for all functions, their records stand.
use Rattle.std.specs.Prelude.{ℕ, ◌*◌, ◌≤◌, ◌≡◌, refl, List, [], ◌∷◌, map, length, take, drop}
use Rattle.std.proofs.Common.{ap, ◌∙◌, arith, length-append, take_all, take_at}
use Rattle.std.proofs.lemmas.List.{length-map}
use Rattle.text_rules.specs.Bytes.{All, joined, overwritten}
use Rattle.text_rules.specs.Sizes.{record_width}
use Rattle.gate_rules.proofs.BufferLaws.{wide-files}
use Rattle.gate_rules.specs.Calls.{room}
use Rattle.gate_rules.specs.Gate.{gate}
use Rattle.gate_rules.specs.Records.{record_bytes, records}
use Rattle.gate_rules.specs.Scan.{functions_of}
use Rattle.gate_rules.specs.Tree.{sources, tree_refusal}
use Rattle.gate_rules.proofs.TreeSizes.{tree-records}
use Rattle.functions.specs.Shown.{Stand}

wide-joined : (rs : List (List ℕ)) → All (λ r. length r ≡ record_width) rs → length (joined rs) ≡ record_width * length rs
wide-joined [] h = refl
wide-joined (r ∷ rs) h = length-append r (joined rs) ∙ (omega (arith, h.0, wide-joined rs h.1))

all-wide : (tree : List ℕ) → All (λ r. length r ≡ record_width) (map record_bytes (records tree))
unfolding records
all-wide tree = wide-files (sources tree)

pub stands : (tree lent : List ℕ) → tree_refusal tree ≡ 0 → length (functions_of gate tree) ≤ room lent
    → Stand tree (overwritten (joined (take (room lent) (map record_bytes (records tree)))) lent)
stands tree lent e h =
    let rs = map record_bytes (records tree) in
    let count = length-map (records tree) record_bytes in
    let all : take (room lent) rs ≡ rs = take_all (room lent) rs (omega (arith, count, tree-records tree e)) in
    let size : length (joined rs) ≡ record_width * length (records tree) = wide-joined rs (all-wide tree) ∙ ap (λ n. record_width * n) count in
    record {
      unrefused = e;
      few = omega arith;
      there = ap (λ qs. take (record_width * length (records tree)) (overwritten (joined qs) lent)) all ∙ take_at (joined rs) (drop (length (joined rs)) lent) _ size;
    }
