-- A body walked in one pass from its opening brace: where the walk stands, and one law for each way of a turn.
use Prim.Native.Nat.{ℕ, suc, ◌+◌, ◌-◌, ◌≤◌, ◌<◌, max}
use mathlib.Core.Path.{◌≡◌, refl, ap, sym, ◌∙◌, subst}
use mathlib.Core.Logic.{◌≢◌}
use mathlib.Core.Bool.{Bool, true, false}
use mathlib.Core.List.{List, [], ◌∷◌}
use mathlib.Core.Option.{Option, none, some}
use native.Mathlib.Omega.{arith}
use lib.Dec.{eqb}
use lib.ListN.{drop, get_or, length, length-take, take}
use lib.Seq.{drop-drop, get_or-take}
use Rattle.text_rules.specs.Bytes.{All, if◌then◌otherwise◌}
use Rattle.text_rules.specs.Classes.{brace_close, brace_open, is_letter, lf, question, space}
use Rattle.text_rules.specs.Search.{opens, part}
use Rattle.source_rules.specs.Brackets.{partner}
use Rattle.source_rules.proofs.BracketsLaws.{partner-inside}
use Rattle.source_rules.specs.Measures.{cyclomatic_from, cyclomatic_of, decides, deepest, is_pair, line_at, lines_of, nesting_of, piece_length}
use Rattle.source_rules.proofs.WalkSteps.{cyclomatic-end, deepest-end, line-end, partner_close, partner-end, partner-found, partner_open, partner-other}
use Rattle.measures.proofs.BodyLaws.{byte-decides, byte-length, cyclomatic_jump, cyclomatic-same, deepest_close, deepest_open, deepest-other, line-lf, line_other, pair-at, piece-room}
use Rattle.measures.proofs.Cut.{Inner, cut, cut-byte, cut_inside, decides-cut, deepest-inner, drop-take, front, inner, line-inner, piece-partner, size-cut}

-- the place of the closing brace of the body whose opening one stands at a place
abbrev pub end : List ℕ → ℕ → Option ℕ
end s from = partner brace_open brace_close 0 (from + 1) (drop (from + 1) s)

-- the text through its body, all of it where the body does not end
abbrev pub through : List ℕ → ℕ → List ℕ
through s from = cut (end s from) s

-- where the walk stands: each measure of the rest, from what was counted before it on, is that of the body
pub record Walking (s : List ℕ) (from depth nesting lines n at : ℕ) : Type 0 where
  pub inside : at ≤ length s
  pub depth-most : depth ≤ at
  pub depth-reached : depth + 1 ≤ nesting
  pub nesting-most : nesting ≤ at + 1
  pub lines-most : lines ≤ at + 1
  pub n-most : n ≤ at + 1
  pub end_same : partner brace_open brace_close depth at (drop at s) ≡ end s from
  pub cyclomatic-same : cyclomatic_from n 0 (drop at (through s from)) ≡ cyclomatic_of (drop from (through s from))
  pub nesting-same : deepest nesting (depth + 1) (drop at (through s from)) ≡ nesting_of (drop from (through s from))
  pub lines_same : line_at lines (drop at (through s from)) ≡ lines_of (drop from (through s from))

at_most : (b : Bool) (n : ℕ) → (if b then suc n otherwise n) ≤ n + 1
at_most true n = omega arith
at_most false n = omega arith

-- a byte that begins no word and no pair, and decides nothing
abbrev Alone : ℕ → Type 0
Alone b = (is_letter b ≡ false) × ((c : ℕ) → is_pair (b ∷ c ∷ []) ≡ false) × (eqb b question ≡ false)

alone_space : Alone space
unfolding is_letter is_pair opens
alone_space = (refl, λ c. refl, refl)

alone_lf : Alone lf
unfolding is_letter is_pair opens
alone_lf = (refl, λ c. refl, refl)

alone_open : Alone brace_open
unfolding is_letter is_pair opens
alone_open = (refl, λ c. refl, refl)

alone_close : Alone brace_close
unfolding is_letter is_pair opens
alone_close = (refl, λ c. refl, refl)

-- it is a piece
module _ (t : List ℕ) (at b : ℕ) (e : get_or t at 0 ≡ b) (a : Alone b) where
  letter_alone : is_letter (get_or t at 0) ≡ false
  letter_alone = ap is_letter e ∙ a.0

  pair_alone : is_pair (drop at t) ≡ false
  pair_alone = pair-at t at ∙ ap (λ x. is_pair (x ∷ get_or t (at + 1) 0 ∷ [])) e ∙ a.1 (get_or t (at + 1) 0)

  length_alone : piece_length (drop at t) ≡ 1
  length_alone = byte-length t at letter_alone pair_alone

  decides_alone : decides (drop at t) ≡ false
  decides_alone = byte-decides t at letter_alone pair_alone ∙ ap (λ x. eqb x question) e ∙ a.2

  cyclomatic_alone : at < length t → (n : ℕ) → cyclomatic_from n 0 (drop at t) ≡ cyclomatic_from n 0 (drop (at + 1) t)
  cyclomatic_alone h n = cyclomatic-same t at h n decides_alone ∙ ap (λ k. cyclomatic_from n 0 (drop (at + k) t)) length_alone

-- the walk begins behind the opening brace
module _ (s : List ℕ) (from : ℕ) (h : from < length s) (e : get_or s from 0 ≡ brace_open) where
  from-inside : (o : Option ℕ) → end s from ≡ o → from < length (cut o s)
  unfolding cut
  from-inside none p = h
  from-inside (some k) p = simp length-take (omega (arith, partner-inside brace_open brace_close 0 (from + 1) (drop (from + 1) s) k p))

  from_byte : (o : Option ℕ) → end s from ≡ o → get_or (cut o s) from 0 ≡ brace_open
  unfolding cut
  from_byte none p = e
  from_byte (some k) p = get_or-take (k + 1) s from 0 (omega (arith, partner-inside brace_open brace_close 0 (from + 1) (drop (from + 1) s) k p)) ∙ e

  -- the opening brace is passed
  pub start : Walking s from 0 1 1 1 (from + 1)
  unfolding cyclomatic_of nesting_of lines_of
  start =
      let t = through s from in
      let k = from-inside (end s from) refl in
      let b = from_byte (end s from) refl in
      record {
        inside = omega arith;
        depth-most = omega arith;
        depth-reached = omega arith;
        nesting-most = omega arith;
        lines-most = omega arith;
        n-most = omega arith;
        end_same = refl;
        cyclomatic-same = sym (cyclomatic_alone t from brace_open b alone_open k 1);
        nesting-same = sym (deepest_open t from k 0 0 b);
        lines_same = sym (line_other t from k 1 (λ z. omega arith));
      }

-- one turn
module _ (s : List ℕ) (from depth nesting lines n at : ℕ) (w : Walking s from depth nesting lines n at) (h : at < length s) where
  abbrev t : List ℕ
  t = through s from

  here : at < length t
  here = cut_inside s depth at h (end s from) w.end_same

  byte : get_or t at 0 ≡ get_or s at 0
  byte = cut-byte s depth at h (end s from) w.end_same

  -- past a piece of bytes that neither change the depth nor begin a line
  pub piece : (next m : ℕ) → Inner (get_or s at 0) → next ≡ at + piece_length (drop at s) → m ≡ (if decides (drop at s) then suc n otherwise n)
      → Walking s from depth nesting lines m next
  piece next m i e f =
      let o = end s from in
      let p = w.end_same in
      let size = piece_length (drop at s) in
      let room = piece-room s at h in
      let inner_cut : All Inner (take size (drop at t)) = subst (All Inner) (sym (front s depth at h i o p size (omega arith))) (inner s depth at h i) in
      let to : drop size (drop at t) ≡ drop next t = drop-drop size at t ∙ ap (λ k. drop k t) (sym e) in
      let size_same = size-cut s depth at h i o p in
      let decides-same = decides-cut s depth at h i o p in
      let jump : cyclomatic_from n 0 (drop at t) ≡ cyclomatic_from m 0 (drop next t) =
      cyclomatic_jump t at here n
      ∙ ap (λ k. cyclomatic_from (if decides (drop at t) then suc n otherwise n) 0 (drop (at + k) t)) size_same
      ∙ ap (λ k. cyclomatic_from (if k then suc n otherwise n) 0 (drop (at + size) t)) decides-same
      ∙ ap (λ k. cyclomatic_from k 0 (drop (at + size) t)) (sym f)
      ∙ ap (λ k. cyclomatic_from m 0 (drop k t)) (sym e) in
      record {
        inside = omega arith;
        depth-most = omega arith;
        depth-reached = omega arith;
        nesting-most = omega arith;
        lines-most = omega arith;
        n-most = omega (arith, at_most (decides (drop at s)) n);
        end_same = ap (λ k. partner brace_open brace_close depth k (drop k s)) e ∙ sym (piece-partner s depth at h i) ∙ p;
        cyclomatic-same = sym jump ∙ w.cyclomatic-same;
        nesting-same = ap (deepest nesting (depth + 1)) (sym to) ∙ sym (deepest-inner nesting (depth + 1) size (drop at t) inner_cut (omega arith)) ∙ w.nesting-same;
        lines_same = ap (line_at lines) (sym to) ∙ sym (line-inner lines size (drop at t) inner_cut) ∙ w.lines_same;
      }

  -- past a space
  pub spaced : get_or s at 0 ≡ space → Walking s from depth nesting lines n (at + 1)
  spaced e =
      let one = length_alone s at space e alone_space in
      let none = decides_alone s at space e alone_space in
      piece (at + 1) n (λ z. omega arith, λ z. omega arith, λ z. omega arith) (ap (λ k. at + k) (sym one)) (ap (λ k. if k then suc n otherwise n) (sym none))

  -- past an opening brace
  pub opened : get_or s at 0 ≡ brace_open → Walking s from (depth + 1) (max nesting (depth + 1 + 1)) lines n (at + 1)
  opened e = record {
    inside = omega arith;
    depth-most = omega arith;
    depth-reached = omega arith;
    nesting-most = omega arith;
    lines-most = omega arith;
    n-most = omega arith;
    end_same = sym (partner_open s at h brace_open brace_close depth (λ z. omega arith) e) ∙ w.end_same;
    cyclomatic-same = sym (cyclomatic_alone t at brace_open (byte ∙ e) alone_open here n) ∙ w.cyclomatic-same;
    nesting-same = sym (deepest_open t at here nesting (depth + 1) (byte ∙ e)) ∙ w.nesting-same;
    lines_same = sym (line_other t at here lines (λ z. omega (arith, byte))) ∙ w.lines_same;
  }

  -- past a closing brace inside the body
  pub closed : get_or s at 0 ≡ brace_close → depth ≢ 0 → Walking s from (depth - 1) nesting lines n (at + 1)
  closed e z =
      let same : depth - 1 + 1 ≡ depth + 1 - 1 = omega (arith, z) in
      record {
        inside = omega arith;
        depth-most = omega arith;
        depth-reached = omega arith;
        nesting-most = omega arith;
        lines-most = omega arith;
        n-most = omega arith;
        end_same = sym (partner_close s at h brace_open brace_close depth (λ z. omega arith) e z) ∙ w.end_same;
        cyclomatic-same = sym (cyclomatic_alone t at brace_close (byte ∙ e) alone_close here n) ∙ w.cyclomatic-same;
        nesting-same =
            ap (λ k. deepest nesting k (drop (at + 1) t)) same
            ∙ sym (deepest_close t at here nesting (depth + 1) (λ z. omega (arith, byte)) (byte ∙ e) (omega arith))
            ∙ w.nesting-same;
        lines_same = sym (line_other t at here lines (λ z. omega (arith, byte))) ∙ w.lines_same;
      }

  -- past an LF
  pub line : get_or s at 0 ≡ lf → Walking s from depth nesting (lines + 1) n (at + 1)
  line e = record {
    inside = omega arith;
    depth-most = omega arith;
    depth-reached = omega arith;
    nesting-most = omega arith;
    lines-most = omega arith;
    n-most = omega arith;
    end_same = sym (partner-other s at h brace_open brace_close depth (λ z. omega arith) (λ z. omega arith)) ∙ w.end_same;
    cyclomatic-same = sym (cyclomatic_alone t at lf (byte ∙ e) alone_lf here n) ∙ w.cyclomatic-same;
    nesting-same = sym (deepest-other t at here nesting (depth + 1) (λ z. omega (arith, byte)) (λ z. omega (arith, byte)) (omega arith)) ∙ w.nesting-same;
    lines_same = sym (line-lf t at here lines (byte ∙ e)) ∙ w.lines_same;
  }

  -- at the closing brace of the body
  pub found : get_or s at 0 ≡ brace_close → depth ≡ 0 → some at ≡ end s from
  found e z = sym (partner-found s at h brace_open brace_close depth e z) ∙ w.end_same

  module _ (e : get_or s at 0 ≡ brace_close) (z : depth ≡ 0) where
    behind : length t ≤ at + 1
    unfolding cut
    behind = subst (λ o. length (cut o s) ≤ at + 1) (found e z) (simp length-take (omega arith))

    body : drop from t ≡ part from (at + 1) s
    unfolding cut
    body = ap (λ o. drop from (cut o s)) (sym (found e z)) ∙ drop-take from (at + 1) s

    -- what was counted is the measure of the body
    pub cyclomatic-found : n ≡ cyclomatic_of (part from (at + 1) s)
    cyclomatic-found =
        sym (cyclomatic_alone t at brace_close (byte ∙ e) alone_close here n ∙ cyclomatic-end t (at + 1) behind n 0) ∙ w.cyclomatic-same ∙ ap cyclomatic_of body

    pub nesting-found : nesting ≡ nesting_of (part from (at + 1) s)
    nesting-found =
        sym (
        deepest_close t at here nesting (depth + 1) (λ z. omega (arith, byte)) (byte ∙ e) (omega arith)
        ∙ deepest-end t (at + 1) behind nesting (depth + 1 - 1))
        ∙ w.nesting-same ∙ ap nesting_of body

    pub lines-found : lines ≡ lines_of (part from (at + 1) s)
    lines-found =
        sym (line_other t at here lines (λ z. omega (arith, byte)) ∙ line-end t (at + 1) behind lines)
        ∙ w.lines_same ∙ ap lines_of body

-- a text that ends before its body does
pub ended : (s : List ℕ) (from depth nesting lines n at : ℕ) → Walking s from depth nesting lines n at → length s ≤ at → none ≡ end s from
ended s from depth nesting lines n at w h = sym (partner-end s at h brace_open brace_close depth) ∙ w.end_same
