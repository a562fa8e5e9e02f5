-- `gate_scan::blank_texts` meets its contract: blanking the texts that are left, into what work has become, is blanking all into what it was.
use Prim.Native.Nat.{ℕ, ◌≤◌, ◌<◌, ◌+◌, ◌*◌, ◌-◌}
use mathlib.Core.Path.{◌≡◌, refl, ap, sym, ◌∙◌}
use native.Mathlib.Omega.{arith}
use mathlib.Core.List.{List, ◌++◌}
use lib.ListN.{length, take, drop, length-take}
use Rattle.text_rules.specs.Bytes.{put_at}
use Rattle.text_rules.proofs.PutLaws.{put-length}
use Rattle.text_rules.specs.Search.{part}
use Rattle.source_rules.specs.Blank.{blanked}
use Rattle.source_rules.proofs.BlankLaws.{blanked-length}
use Rattle.gate_rules.proofs.FileLaws.{FileAt, blank_end, blank_put, blank_step, count-inside, file-at}
use Rattle.gate_rules.specs.Records.{blank_into}
use Rattle.gate_rules.specs.Tree.{entry_at, sources, sources_from, text_in, text_length, text_offset}
use Rattle.gate_scan.proofs.blank_texts.Goals as goal

-- what one call of `blank_part` makes of work: the blanked text at its place, the length as it was, and the same whole to come
module _ (tree w w' : List ℕ) (n k from to : ℕ) (h : k < n) (f : FileAt tree k) (e : from ≡ text_offset tree (entry_at k)) (d : to ≡ text_offset tree (entry_at k) + text_length tree (entry_at k))
    (long : length tree ≤ length w) (q : w' ≡ take from w ++ blanked (part from to tree) ++ drop to w) where
  put_is : w' ≡ put_at (text_offset tree (entry_at k)) (blanked (text_in tree (entry_at k))) w
  put_is = q ∙ blank_put tree w (text_offset tree (entry_at k)) (text_length tree (entry_at k)) from to e d f.text-inside

  same : length w' ≡ length w
  same =
      let text : List ℕ = text_in tree (entry_at k) in
      let size : length text ≤ text_length tree (entry_at k) = simp length-take (omega arith) in
      ap length put_is ∙ put-length (text_offset tree (entry_at k)) (blanked text) w (omega (arith, f.text-inside, blanked-length text))

  next : (whole : List ℕ) → blank_into (sources_from tree (n - k) k (4 + 16 * k)) w ≡ whole → blank_into (sources_from tree (n - (k + 1)) (k + 1) (4 + 16 * (k + 1))) w' ≡ whole
  next whole g = ap (blank_into (sources_from tree (n - (k + 1)) (k + 1) (4 + 16 * (k + 1)))) put_is ∙ sym (blank_step tree n k w h) ∙ g

pub file_count-n-requires : goal.file_count-n-requires
file_count-n-requires c = count-inside c.args.tree.now c.requires.0

pub loop-k-init : goal.loop-k-init
unfolding sources
loop-k-init c =
    let tree = c.args.tree.now in
    let n = c.file_count-n.ensures in
    (omega arith, refl, ap (λ m. blank_into (sources_from tree m 0 4) c.args.work.now) (omega arith))

pub text_span-text-requires : goal.text_span-text-requires
text_span-text-requires c =
    (c.requires.0, omega (arith, c.file_count-n.ensures))

pub blank_part-requires : goal.blank_part-requires
blank_part-requires c =
    (omega (arith, c.text_span-text.ensures.2), c.text_span-text.ensures.3, omega (arith, c.requires.1, c.loop-k.invariant.1))

pub loop-k-preserved : goal.loop-k-preserved
loop-k-preserved c =
    let tree = c.args.tree.now in
    let n = c.file_count-n.result in
    let k = c.loop-k.k in
    let e = c.file_count-n.ensures in
    let f = file-at tree k c.requires.0 (omega arith) in
    let long : length tree ≤ length c.loop-k.work = omega (arith, c.requires.1, c.loop-k.invariant.1) in
    let t = c.text_span-text.ensures in (
      omega arith,
      same tree c.loop-k.work _ n k _ _ (omega arith) f t.0 t.1 long c.blank_part.ensures ∙ c.loop-k.invariant.1,
      next tree c.loop-k.work _ n k _ _ (omega arith) f t.0 t.1 long c.blank_part.ensures _ c.loop-k.invariant.2,
    )

pub shape_of-work : goal.shape_of-work
shape_of-work c = c.loop-k.invariant.1

pub returns : goal.returns
returns c =
    let tree = c.args.tree.now in
    sym (blank_end tree c.file_count-n.result c.loop-k.k c.loop-k.work (omega arith)) ∙ c.loop-k.invariant.2
