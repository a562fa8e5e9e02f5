-- The writing of a text: one store, or the choice of a token, leaves the finished output the same; at the end the finished output is the one at hand.
use mathlib.Core.Path.{◌≡◌, refl, ap, sym, ◌∙◌}
use mathlib.Core.Logic.{◌≢◌}
use mathlib.Core.List.{List, [], ◌∷◌, ◌++◌, append_assoc, append-nil}
use Prim.Native.Nat.{ℕ, zero, suc, pred, ◌+◌, ◌-◌, ◌≤◌, ◌<◌}
use native.Mathlib.Numerals.{add-one}
use native.Mathlib.Omega.{arith}
use borrow.Author.Tests.{eq-eqb, ne_eqb, lt-ltb, le-ltb}
use lib.ListN.{length, get_or, take, drop, set, take-append-drop, drop_of_length-le}
use lib.Seq.{take-suc-set, drop-set-lt, drop-drop}
use Rattle.text_rules.specs.Answer.{Answer}
use Rattle.text_rules.specs.Bytes.{◌or_else◌}
use Rattle.text_rules.specs.Classes.{lf, space}
use Rattle.text_rules.proofs.ScanLaws.{or_else-same, or_else-some, split}
use Rattle.text_rules.specs.Search.{part}
use Rattle.text_rules.proofs.SearchLaws.{part_length}
use Rattle.text_rules.specs.Sizes.{max_tree}
use Rattle.source_rules.specs.Blank.{blank_from, blanked, put, token_length}
use Rattle.source_rules.specs.BlankCall.{blank_call, blank_number, blank_output}
use Rattle.source_rules.proofs.BlankLaws.{blanked-length}
use Rattle.blanking.specs.Bare.{Answered, finished}

pub put-lf : (b : ℕ) → b ≡ lf → put 1 b ≡ lf
unfolding put
put-lf b e = rw (eq-eqb b lf e, put)

pub put-space : (b : ℕ) → b ≢ lf → put 1 b ≡ space
unfolding put
put-space b e = rw (ne_eqb b lf e, put)

put_some : (m b : ℕ) → 0 < m → put m b ≡ put 1 b
unfolding put
put_some zero b h = absurd (omega arith)
put_some (suc m) b h = refl

-- a token is pending as soon as it is known
pending : (p : ℕ) (d : List ℕ) → blank_from (token_length p d) p d ≡ blank_from 0 p d
unfolding blank_from
pending p [] = refl
pending p (b ∷ r) = rw (or_else-same (token_length p (b ∷ r)))

-- only the bytes that are left of a token matter
same_left : (s out : List ℕ) (i e f : ℕ) → e - i ≡ f - i → finished s out i e ≡ finished s out i f
same_left s out i e f h = ap (λ (k : ℕ). take i out ++ (blank_from k (get_or (0 ∷ s) i 0) (drop i s) ++ drop (length s) out)) h

module _ (s out : List ℕ) (i : ℕ) where
  pub begun : (e : ℕ) → e ≡ i + token_length (get_or (0 ∷ s) i 0) (drop i s) → finished s out i e ≡ finished s out i i
  begun e h =
      let p = get_or (0 ∷ s) i 0 in
      let n : e - i ≡ token_length p (drop i s) = omega arith in
      let z : i - i ≡ 0 = omega arith in
      rw (n, z, pending p (drop i s))

  module _ (h : i < length s) (f : length s ≤ length out) where
    step : (k p m : ℕ) → m ≡ (k or_else token_length p (drop i s)) → blank_from k p (drop i s) ≡ put m (get_or s i 0) ∷ blank_from (pred m) (get_or s i 0) (drop (i + 1) s)
    unfolding blank_from
    step k p m e = rw (e, split s i h)

    store : (e n v : ℕ) → n - i ≡ ((e - i) or_else token_length (get_or (0 ∷ s) i 0) (drop i s)) → v ≡ put (n - i) (get_or s i 0) → finished s (set out i v) (i + 1) n ≡ finished s out i e
    store e n v t w =
        let p : pred (n - i) ≡ n - suc i = omega arith in
        let l : i < length out = omega arith in
        let u : blank_from (e - i) (get_or (0 ∷ s) i 0) (drop i s) ≡ v ∷ blank_from (n - suc i) (get_or s i 0) (drop (suc i) s) = rw (w, ← p, ← add-one i) (step (e - i) (get_or (0 ∷ s) i 0) (n - i) t) in
        rw (add-one i, take-suc-set out i v l, drop-set-lt (length s) out i v h, append_assoc, u)

    -- a byte of a token that goes on to e
    pub filled : (e : ℕ) → i < e → finished s (set out i (put 1 (get_or s i 0))) (i + 1) e ≡ finished s out i e
    filled e l = store e e (put 1 (get_or s i 0)) (sym (or_else-some (e - i) _ (omega arith))) (sym (put_some (e - i) (get_or s i 0) (omega arith)))

    -- a byte that begins no token
    pub copied : token_length (get_or (0 ∷ s) i 0) (drop i s) ≡ 0 → finished s (set out i (get_or s i 0)) (i + 1) (i + 1) ≡ finished s out i i
    unfolding put
    copied e =
        let z : i - i ≡ 0 = omega arith in
        same_left s (set out i (get_or s i 0)) (i + 1) (i + 1) i (omega arith) ∙ store i i (get_or s i 0) (rw (z, e)) (rw z)

  pub ended : length s ≡ i → finished s out i i ≡ out
  unfolding blank_from
  ended e =
      let n : length s ≤ i = omega arith in
      rw (drop_of_length-le s n, e, take-append-drop)

pub started : (s out : List ℕ) → finished s out 0 0 ≡ blanked s ++ drop (length s) out
unfolding blanked
started s out = refl

-- the part from a to e of a longer buffer
pub part-written : (t w : List ℕ) (a e : ℕ) → a ≤ e → e ≤ length t → length t ≤ length w
    → take a w ++ ((blanked (part a e t) ++ drop (length (part a e t)) (part a e w)) ++ drop (e - a) (drop a w)) ≡ take a w ++ blanked (part a e t) ++ drop e w
part-written t w a e h i j =
    let n : a + (e - a) ≡ e = omega arith in
    let x = part_length a e t h i in
    let y = part_length a e w h (omega arith) in
    let l : length (part a e w) ≤ length (part a e t) = omega arith in
    rw (drop_of_length-le (part a e w) l, append-nil, drop-drop (e - a) a w, n, append_assoc)

-- the call's three ways
module _ (s out : List ℕ) (r : Answer) where
  module _ (number : ℕ) (e : blank_number s out ≡ suc number) where
    refused : r.number ≡ suc number → r.written ≡ 0 → r.functions ≡ 0 → Answered s out r out
    unfolding blank_call blank_output
    refused a b c = record { number_is = rw e a; written_is = rw e b; functions-is = rw e c; output-is = rw (e, blank_output) }

  pub too_long : max_tree < length s → r.number ≡ 1 → r.written ≡ 0 → r.functions ≡ 0 → Answered s out r out
  unfolding blank_number
  too_long h = refused 0 (rw (lt-ltb max_tree (length s) h))

  module _ (l : length s ≤ max_tree) where
    pub too_short : length out < length s → r.number ≡ 5 → r.written ≡ 0 → r.functions ≡ 0 → Answered s out r out
    unfolding blank_number
    too_short h = refused 4 (rw (le-ltb max_tree (length s) l, lt-ltb (length out) (length s) h))

    pub accepted : length s ≤ length out → (left : List ℕ) → left ≡ blanked s ++ drop (length s) out → r.number ≡ 0 → r.written ≡ length s → r.functions ≡ 0 → Answered s out r left
    unfolding blank_number blank_call blank_output
    accepted h left w a b c =
        let e : blank_number s out ≡ 0 = rw (le-ltb max_tree (length s) l, le-ltb (length out) (length s) h) in
        record { number_is = rw e a; written_is = rw e b; functions-is = rw e c; output-is = rw (e, blank_output, blanked-length s) w }
