-- The work buffer holds the blanked bytes of each text at the text's place.
use Rattle.std.specs.Prelude.{ℕ, zero, suc, ◌+◌, ◌≤◌, ◌≡◌, refl, List, [], ◌∷◌, ◌++◌, true, length, take, drop}
use Rattle.std.proofs.Common.{ap, sym, ◌∙◌, arith, length-append, length-take, take-take, drop_at, take_at}
use Rattle.std.proofs.lemmas.List.{take-append-le}
use Rattle.std.proofs.Math.Seq.{take-nil}
use Rattle.text_rules.specs.Bytes.{All, put_at}
use Rattle.text_rules.specs.BytesLaws.{and_left, and_right}
use Rattle.text_rules.proofs.PutLaws.{put-length}
use Rattle.source_rules.specs.Blank.{blanked}
use Rattle.source_rules.proofs.BlankLaws.{blanked-length}
use Rattle.gate_rules.proofs.ConditionLaws.{entry-fits, laid_out}
use Rattle.gate_rules.specs.Records.{blank_into}
use Rattle.gate_rules.specs.Tree.{Source, entries_fit, entry_fits, file_count, source_at, sources, sources_from, table_end, text_length, text_offset}
use Rattle.gate_rules.proofs.TreeLaws.{InTree, SoundTree, sources-placed}

-- each text stands behind the one before
abbrev TextsApart : ℕ → List Source → Type 0
TextsApart place [] = Unit {0}
TextsApart place (f ∷ fs) = (place ≤ f.text_at) × TextsApart (f.text_at + length f.text) fs

from-apart : (tree : List ℕ) (left number entry place before : ℕ) → before ≤ place → entries_fit tree left entry place ≡ true → TextsApart before (sources_from tree left number entry)
unfolding entries_fit sources_from source_at
from-apart tree zero number entry place before h e = tt
from-apart tree (suc left) number entry place before h e =
    let f = entry-fits tree entry place (and_left _ _ e) in
    let short : length (take (text_length tree entry) (drop (text_offset tree entry) tree)) ≤ text_length tree entry = simp length-take (omega arith) in
    (omega (arith, f.text_offset), from-apart tree left (suc number) (entry + 16) (text_offset tree entry + text_length tree entry) _ (omega arith) (and_right (entry_fits tree entry place) _ e))

-- bytes before a place stay
put-before : (n at : ℕ) (bytes s : List ℕ) → n ≤ at → at + length bytes ≤ length s → take n (put_at at bytes s) ≡ take n s
put-before n at bytes s h l =
    take-append-le n (take at s ++ bytes) (drop (at + length bytes) s) (simp (length-append, length-take) (omega arith))
    ∙ take-append-le n (take at s) bytes (simp length-take (omega arith)) ∙ take-take n at s h

blank_before : (tree : List ℕ) (n place : ℕ) (files : List Source) (work : List ℕ) → n ≤ place → TextsApart place files → All (InTree tree) files → length tree ≤ length work → take n (blank_into files work) ≡ take n work
unfolding blank_into
blank_before tree n place [] work h a p l = refl
blank_before tree n place (f ∷ fs) work h a p l =
    let fits : f.text_at + length (blanked f.text) ≤ length work = omega (arith, p.0.text-inside, blanked-length f.text) in
    let same = put-length f.text_at (blanked f.text) work fits in
    blank_before tree n (f.text_at + length f.text) fs (put_at f.text_at (blanked f.text) work) (omega (arith, a.0)) a.1 p.1 (omega arith)
    ∙ put-before n f.text_at (blanked f.text) work (omega (arith, a.0)) fits

-- a part, by what stands before its end
take-drop : {A : Type 0} (a n : ℕ) (s : List A) → take n (drop a s) ≡ drop a (take (a + n) s)
take-drop zero n s = let e : n ≡ 0 + n = omega arith in ap (λ k. take k s) e
take-drop {A} (suc a) n [] = take-nil n ∙ sym (ap (drop (suc a)) (take-nil {A = A} (suc a + n)))
take-drop (suc a) n (x ∷ s) = let e : suc (a + n) ≡ suc a + n = omega arith in take-drop a n s ∙ ap (λ k. drop (suc a) (take k (x ∷ s))) e

put-there : (at : ℕ) (bytes s : List ℕ) → at + length bytes ≤ length s → take (at + length bytes) (put_at at bytes s) ≡ take at s ++ bytes
put-there at bytes s h = take_at (take at s ++ bytes) (drop (at + length bytes) s) (at + length bytes) (simp (length-append, length-take) (omega arith))

abbrev pub Holds : List ℕ → Source → Type 0
Holds work f = take (length f.text) (drop f.text_at work) ≡ blanked f.text

holds-first : (tree : List ℕ) (f : Source) (fs : List Source) (work : List ℕ) → TextsApart (f.text_at + length f.text) fs → InTree tree f → All (InTree tree) fs → length tree ≤ length work
    → Holds (blank_into fs (put_at f.text_at (blanked f.text) work)) f
holds-first tree f fs work a q p l =
    let at = f.text_at in
    let bytes = blanked f.text in
    let size = blanked-length f.text in
    let fits : at + length bytes ≤ length work = omega (arith, q.text-inside) in
    let kept = blank_before tree (at + length bytes) (at + length f.text) fs (put_at at bytes work) (omega arith) a p (omega (arith, put-length at bytes work fits)) in
    ap (λ n. take n (drop at (blank_into fs (put_at at bytes work)))) (sym size)
    ∙ take-drop at (length bytes) (blank_into fs (put_at at bytes work))
    ∙ ap (drop at) (kept ∙ put-there at bytes work fits)
    ∙ drop_at (take at work) bytes at (simp length-take (omega arith))

holds-all : (tree : List ℕ) (place : ℕ) (files : List Source) (work : List ℕ) → TextsApart place files → All (InTree tree) files → length tree ≤ length work → All (Holds (blank_into files work)) files
unfolding blank_into
holds-all tree place [] work a p l = tt
holds-all tree place (f ∷ fs) work a p l =
    let fits : f.text_at + length (blanked f.text) ≤ length work = omega (arith, p.0.text-inside, blanked-length f.text) in
    let same = put-length f.text_at (blanked f.text) work fits in
    (holds-first tree f fs work a.1 p.0 p.1 l, holds-all tree (f.text_at + length f.text) fs (put_at f.text_at (blanked f.text) work) a.1 p.1 (omega arith))

pub work-holds : (tree : List ℕ) → SoundTree tree → (work : List ℕ) → length tree ≤ length work → All (Holds (blank_into (sources tree) work)) (sources tree)
unfolding sources
work-holds tree t work l = holds-all tree 0 (sources tree) work (from-apart tree (file_count tree) 0 4 (table_end tree) 0 (omega arith) (laid_out tree t.laid).entries) (sources-placed tree t) l
