-- A walk over the lines of a baseline, and its steps.
use Rattle.std.specs.Prelude.{ℕ, Option, Some, None, ◌+◌, ◌≤◌, ◌<◌, ◌≡◌, refl, List, [], ◌∷◌, ◌++◌, length, drop, map}
use Rattle.std.specs.Borrow.{Bor}
use Rattle.std.specs.Option.{ForSome}
use Rattle.std.proofs.Common.{ap, ap₂, sym, ◌∙◌}
use Rattle.std.proofs.Math.Option.{some}
use Rattle.text_rules.specs.Search.{bytes_before, part}
use Rattle.gate_rules.specs.Functions.{key}
use Rattle.gate_rules.specs.Gate.{gate}
use Rattle.gate_rules.specs.Scan.{functions_of}
use Rattle.functions.specs.declared.Functions.{Functions}
use Rattle.baseline.specs.Ordered.{Unfalling, keys_in, one_key}
use Rattle.baseline.specs.Reads.{key_text}
use Rattle.baseline.specs.declared.Bounds.{Bounds}
use Rattle.key_lines.specs.Keys.{text_of}
use Rattle.key_lines.specs.Meets.{InLine, Stands}
use Rattle.key_lines.specs.Next.{Follows}
use Rattle.key_lines.specs.declared.found.Found.{Found}
use Rattle.key_lines.specs.declared.key.Key.{Key}
use Rattle.listed_keys.specs.KeyLines.{key_lines, lines-append}
use Rattle.in_order.specs.InOrder.{added_by, last_after}
use Rattle.in_order.specs.Passing.{come_all, come_end, come_line, to_come}
use Rattle.in_order.specs.StaleKeys.{stale_in}
use Rattle.in_order.specs.declared.walk.Step.{Step}
use Rattle.in_order.specs.declared.walk.Walk.{Walk}

-- the last key, after a line more
abbrev pub latest : Option Key → Option Key → Option Key
latest last (Some k) = Some k
latest last None = last

pub text-latest : (last here : Option Key) → text_of (latest last here) ≡ last_after (text_of last) (text_of here)
text-latest last (Some k) = refl
text-latest last None = refl

-- the stale keys that a walk has still to come to
abbrev pub come_of : Walk → List (List ℕ)
come_of w = to_come w.functions.tree.now w.lines.now (text_of w.last) w.from

-- a walk stands at the first line
pub record Starts (functions : Functions) (lines : Bor (List ℕ)) (w : Walk) : Type 0 where
  pub functions-is : w.functions ≡ functions
  pub lines-is : w.lines ≡ lines
  pub from-is : w.from ≡ 0
  pub last-is : w.last ≡ None

-- it goes on over the same lines
pub record Same (old new : Walk) : Type 0 where
  pub functions-is : new.functions ≡ old.functions
  pub lines-is : new.lines ≡ old.lines

-- it went past the line in which this was found
pub record Moved (old : Walk) (found : Found) (new : Walk) : Type 0 where
  pub same : Same old new
  pub from-is : new.from ≡ found.next
  pub last-is : new.last ≡ latest old.last found.key

-- the line where it stands is plain, no function has the path of the last key, and the line has that path and a key behind the last one
pub record Follows_on (w : Walk) (l : Bounds) : Type 0 where
  pub last : Key
  pub last-is : w.last ≡ Some last
  pub idle : w.alike.to ≤ w.alike.from
  pub follows : Follows w.lines.now last w.from l

-- a line that adds its key without being looked up, if one was read
abbrev pub ReadNext : Walk → Option Bounds → Type 0
ReadNext w (Some l) = Follows_on w l
ReadNext w None = Unit {0}

-- it went past that line
pub record Followed (old : Walk) (l : Bounds) (new : Walk) : Type 0 where
  pub same : Same old new
  pub from-is : new.from ≡ l.end + 1
  pub last-is : text_of new.last ≡ some (part old.from l.name old.lines.now)

-- a step: what is found in the line where the walk stands, and the key that it adds
pub record Advances (old : Walk) (step : Step) (new : Walk) : Type 0 where
  pub same : Same old new
  pub begins : step.from ≡ old.from
  pub there : old.from < length old.lines.now
  pub line : InLine old.lines.now old.from step.found
  pub before : step.found.last ≡ old.last
  pub adds : one_key (key_text step.added) ≡ added_by (map key (functions_of gate old.functions.tree.now)) (text_of old.last) (text_of step.found.key)
  pub from-is : new.from ≡ step.found.next
  pub last-is : text_of new.last ≡ last_after (text_of old.last) (text_of step.found.key)

-- and its key stands there
pub record Steps (old : Walk) (step : Step) (new : Walk) : Type 0 where
  pub advances : Advances old step new
  pub stands : ForSome step.found.key (λ k. Stands old.lines.now old.from k.bytes.now)

abbrev pub WalkGives : Walk → Option Step → Walk → Type 0
WalkGives old (Some step) new = Steps old step new
WalkGives old None new = length old.lines.now ≤ old.from

-- what is still to come, by what is the same
pub come-same : (old new : Walk) → Same old new → to_come old.functions.tree.now old.lines.now (text_of new.last) new.from ≡ come_of new
come-same old new h =
    ap₂ (λ (f : Functions) (s : Bor (List ℕ)). to_come f.tree.now s.now (text_of new.last) new.from) (sym h.functions-is) (sym h.lines-is)

-- what a line adds, and what those behind it add
pub walk-step : (old : Walk) (step : Step) (new : Walk) → Advances old step new → come_of old ≡ one_key (key_text step.added) ++ come_of new
walk-step old step new h =
    let tree = old.functions.tree.now in
    let s = old.lines.now in
    come_line tree s (text_of old.last) (text_of step.found.key) old.from (old.from + bytes_before 10 (drop old.from s)) refl h.line.key-is
    ∙ ap₂ (λ ks js. ks ++ js) (sym h.adds)
    (ap₂ (to_come tree s) (sym h.last-is) (sym (h.from-is ∙ h.line.ends)) ∙ come-same old new h.same)

-- at the first line all stale keys are still to come, where no key falls
pub come_start : (functions : Functions) (lines : Bor (List ℕ)) (w : Walk) → Starts functions lines w → Unfalling (keys_in lines.now) → come_of w ≡ stale_in functions.tree.now lines.now
come_start functions lines w h u =
    ap₂ (λ (f : Functions) (s : Bor (List ℕ)). to_come f.tree.now s.now (text_of w.last) w.from) h.functions-is h.lines-is
    ∙ ap₂ (λ o n. to_come functions.tree.now lines.now (text_of o) n) h.last-is h.from-is
    ∙ come_all functions.tree.now lines.now u

-- the lines of the keys: that of the key which a step adds, and those still to come
pub step-lines : (old : Walk) (step : Step) (new : Walk) → Advances old step new → (k : Bor (List ℕ)) → step.added ≡ Some k
    → key_lines (come_of old) ≡ key_lines (k.now ∷ []) ++ key_lines (come_of new)
step-lines old step new h k e =
    ap key_lines (walk-step old step new h ∙ ap (λ o. one_key (key_text o) ++ come_of new) e) ∙ lines-append (k.now ∷ []) (come_of new)

pub step-none : (old : Walk) (step : Step) (new : Walk) → Advances old step new → step.added ≡ None → come_of old ≡ come_of new
step-none old step new h e = walk-step old step new h ∙ ap (λ o. one_key (key_text o) ++ come_of new) e

-- no line is left
pub come-over : (w : Walk) → length w.lines.now ≤ w.from → come_of w ≡ []
come-over w h = come_end w.functions.tree.now w.lines.now (text_of w.last) w.from h
