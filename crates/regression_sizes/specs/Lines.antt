-- The regression lines of one function by what the baseline accepts of it, and their lengths in plain numbers.
use Rattle.std.specs.Prelude.{ℕ, ◌+◌, ◌≡◌, refl, Bool, true, false, Option, Some, None, List, [], ◌∷◌, ◌++◌, ltb, length}
use Rattle.std.proofs.Common.{ap, subst, sym, ◌∙◌, append_assoc, append-nil, arith, length-append}
use Rattle.std.proofs.Math.Option.{Option as MathOption, none, some}
use Rattle.text_rules.specs.Bytes.{ascii, if◌then◌otherwise◌, joined}
use Rattle.text_rules.specs.Decimal.{decimal}
use Rattle.text_rules.proofs.WriterLaws.{joined_length}
use Rattle.gate_rules.specs.Baseline.{Entry}
use Rattle.gate_rules.specs.Check.{against, listed, location, more_branches, more_lines, new_and_over}
use Rattle.gate_rules.specs.Functions.{Fun, Limits, over}
use Rattle.gate_rules.proofs.LoopForms.{listed-append}
use Rattle.listing.specs.declared.Size.{Size}
use Rattle.listing.specs.Texts.{located, located-length, located_length, location-is}
use Rattle.baseline.specs.Reads.{accepted_by}
use Rattle.baseline.specs.declared.Recorded.{Recorded}

-- what is accepted of a listed function, as an entry: its path and its name stand in no line
abbrev pub entry_of : Recorded → Entry
entry_of m = record { path = []; name = []; cyclomatic = m.cyclomatic; lines = m.lines }

-- the line of a listed function with a higher cyclomatic number, the one with more lines, and both
abbrev pub branches_of : Fun → Recorded → List (List ℕ)
branches_of f m = if ltb m.cyclomatic f.cyclomatic then more_branches f (entry_of m) ∷ [] otherwise []

abbrev pub lines_of : Fun → Recorded → List (List ℕ)
lines_of f m = if ltb m.lines f.lines then more_lines f (entry_of m) ∷ [] otherwise []

abbrev pub grown_of : Fun → Recorded → List (List ℕ)
grown_of f m = branches_of f m ++ lines_of f m

-- the line of an unlisted function that is over-limit
abbrev pub new_of : Limits → Fun → List (List ℕ)
new_of L f = if over L f then new_and_over f ∷ [] otherwise []

-- the lines of a function against what is accepted of it
abbrev pub accepts : Limits → Fun → Option Recorded → List (List ℕ)
accepts L f (Some m) = grown_of f m
accepts L f None = new_of L f

-- they are the lines of the rules
pub accepts-is : (L : Limits) (f : Fun) (o : MathOption Entry) → accepts L f (accepted_by o) ≡ against L f o
unfolding more_branches more_lines
accepts-is L f none = refl
accepts-is L f (some e) = refl

-- a line as it is listed
abbrev pub told : List ℕ → List ℕ
told line = listed (line ∷ [])

-- how many lines there are, and the bytes of all of them as they are listed
pub record Measured (r : Size) (lines : List (List ℕ)) : Type 0 where
  pub count-is : r.count ≡ length lines
  pub bytes_is : r.bytes ≡ length (listed lines)

-- ---- the parts of a line, and their lengths

abbrev pub started : Fun → List ℕ
started f = ascii "  " ++ location f

abbrev pub pair : (first : List ℕ) (m : ℕ) (second : List ℕ) (n : ℕ) → List ℕ
pair first m second n = joined (first ∷ decimal m ∷ second ∷ decimal n ∷ [])

abbrev pub start_length : Fun → ℕ
start_length f = 2 + located_length f.path f.line f.name

abbrev pub pair_length : (first : List ℕ) (m : ℕ) (second : List ℕ) (n : ℕ) → ℕ
pair_length first m second n = length first + length (decimal m) + length second + length (decimal n)

abbrev pub new_length : Fun → ℕ
new_length f =
    start_length f
    + (36 + length (decimal f.cyclomatic) + length (decimal f.lines))
    + (17 + length (decimal f.nesting) + length (decimal f.params))
    + 1

-- two spaces and path:line name
pub started-is : (f : Fun) → joined (ascii "  " ∷ located f.path f.line f.name ∷ []) ≡ started f
started-is f = ap (λ s. ascii "  " ++ s) (append-nil (located f.path f.line f.name) ∙ sym (location-is f))

pub started-length : (f : Fun) → length (started f) ≡ start_length f
started-length f = omega (arith, ap length (location-is f), located-length f.path f.line f.name)

pub pair-length : (first : List ℕ) (m : ℕ) (second : List ℕ) (n : ℕ) → length (pair first m second n) ≡ pair_length first m second n
pair-length first m second n = joined_length (first ∷ decimal m ∷ second ∷ decimal n ∷ []) ∙ (omega arith)

-- a line with one pair of numbers, and one with two
abbrev pub one_pair : Fun → (first : List ℕ) (m : ℕ) (second : List ℕ) (n : ℕ) → List (List ℕ)
one_pair f first m second n = started f ∷ pair first m second n ∷ ascii "\n" ∷ []

abbrev pub line_with : Fun → (first : List ℕ) (m : ℕ) (second : List ℕ) (n : ℕ) → List ℕ
line_with f first m second n = joined (one_pair f first m second n)

abbrev pub two_pairs : Fun → List (List ℕ)
two_pairs f =
    started f
    ∷ pair (ascii " is new and over: cyclomatic ") f.cyclomatic (ascii " lines ") f.lines
    ∷ pair (ascii " nesting ") f.nesting (ascii " params ") f.params
    ∷ ascii "\n"
    ∷ []

pub one-length : (f : Fun) (first : List ℕ) (m : ℕ) (second : List ℕ) (n : ℕ) → length (joined (one_pair f first m second n)) ≡ start_length f + pair_length first m second n + 1
one-length f first m second n = joined_length (one_pair f first m second n) ∙ (omega (arith, started-length f, pair-length first m second n))

pub two-length : (f : Fun) → length (joined (two_pairs f)) ≡ new_length f
two-length f =
    joined_length (two_pairs f)
    ∙ (omega (
      arith,
      started-length f,
      pair-length (ascii " is new and over: cyclomatic ") f.cyclomatic (ascii " lines ") f.lines,
      pair-length (ascii " nesting ") f.nesting (ascii " params ") f.params,
    ))

pub branches_parts : (f : Fun) (m : Recorded) → joined (one_pair f (ascii " cyclomatic ") f.cyclomatic (ascii " was ") m.cyclomatic) ≡ told (more_branches f (entry_of m))
unfolding listed more_branches
branches_parts f m = simp (append_assoc, append-nil)

pub lines-parts : (f : Fun) (m : Recorded) → joined (one_pair f (ascii " is ") f.lines (ascii " lines, was ") m.lines) ≡ told (more_lines f (entry_of m))
unfolding listed more_lines
lines-parts f m = simp (append_assoc, append-nil)

pub new_parts : (f : Fun) → joined (two_pairs f) ≡ told (new_and_over f)
unfolding listed new_and_over
new_parts f = simp (append_assoc, append-nil)

pub new_length_lem : (f : Fun) → length (told (new_and_over f)) ≡ new_length f
new_length_lem f = ap length (sym (new_parts f)) ∙ two-length f

-- ---- whether there is a line

pub branches_some : (f : Fun) (m : Recorded) → ltb m.cyclomatic f.cyclomatic ≡ true → branches_of f m ≡ more_branches f (entry_of m) ∷ []
branches_some f m h = rw h

pub branches_none : (f : Fun) (m : Recorded) → ltb m.cyclomatic f.cyclomatic ≡ false → branches_of f m ≡ []
branches_none f m h = rw h

pub lines-some : (f : Fun) (m : Recorded) → ltb m.lines f.lines ≡ true → lines_of f m ≡ more_lines f (entry_of m) ∷ []
lines-some f m h = rw h

pub lines_none : (f : Fun) (m : Recorded) → ltb m.lines f.lines ≡ false → lines_of f m ≡ []
lines_none f m h = rw h

pub new_some : (L : Limits) (f : Fun) → over L f ≡ true → new_of L f ≡ new_and_over f ∷ []
new_some L f h = rw h

pub new_none : (L : Limits) (f : Fun) → over L f ≡ false → new_of L f ≡ []
new_none L f h = rw h

-- a line that there is, by its parts
pub branches_line : (f : Fun) (m : Recorded) → ltb m.cyclomatic f.cyclomatic ≡ true → line_with f (ascii " cyclomatic ") f.cyclomatic (ascii " was ") m.cyclomatic ≡ listed (branches_of f m)
branches_line f m h = branches_parts f m ∙ ap listed (sym (branches_some f m h))

pub lines_line : (f : Fun) (m : Recorded) → ltb m.lines f.lines ≡ true → line_with f (ascii " is ") f.lines (ascii " lines, was ") m.lines ≡ listed (lines_of f m)
lines_line f m h = lines-parts f m ∙ ap listed (sym (lines-some f m h))

pub new_line : (L : Limits) (f : Fun) → over L f ≡ true → joined (two_pairs f) ≡ listed (new_of L f)
new_line L f h = new_parts f ∙ ap listed (sym (new_some L f h))

-- where there is none, nothing is listed
pub nothing_listed : {ls : List (List ℕ)} → ls ≡ [] → listed ls ≡ []
unfolding listed
nothing_listed e = ap listed e

-- ---- lines one after another

pub both-length : (ls ms : List (List ℕ)) → length (listed (ls ++ ms)) ≡ length (listed ls) + length (listed ms)
both-length ls ms = ap length (listed-append ls ms) ∙ length-append (listed ls) (listed ms)

pub measured-none : {r : Size} {ls : List (List ℕ)} → ls ≡ [] → r.count ≡ 0 → r.bytes ≡ 0 → Measured r ls
unfolding listed
measured-none {r} {ls} e c b = subst (Measured r) (sym e) (record { count-is = c; bytes_is = b })

pub measured-one : {r : Size} {ls : List (List ℕ)} (line : List ℕ) → ls ≡ line ∷ [] → r.count ≡ 1 → r.bytes ≡ length (told line) → Measured r ls
measured-one {r} {ls} line e c b = subst (Measured r) (sym e) (record { count-is = c; bytes_is = b })

pub measured-both : {a b r : Size} {ls ms : List (List ℕ)} → Measured a ls → Measured b ms → r.count ≡ a.count + b.count → r.bytes ≡ a.bytes + b.bytes → Measured r (ls ++ ms)
measured-both {a} {b} {r} {ls} {ms} x y c d =
    record { count-is = omega (arith, c, x.count-is, y.count-is, length-append ls ms); bytes_is = omega (arith, d, x.bytes_is, y.bytes_is, both-length ls ms) }

-- a line of its own, where there is one
pub record LineMeasured (r : Size) (there : Bool) (line : List ℕ) : Type 0 where
  pub count-is : r.count ≡ (if there then 1 otherwise 0)
  pub bytes_is : r.bytes ≡ (if there then length line otherwise 0)

line_by : {r : Size} {text : List ℕ} (there : Bool) (line : List ℕ) → text ≡ told line → LineMeasured r there text → Measured r (if there then line ∷ [] otherwise [])
unfolding listed
line_by true line e l = record { count-is = l.count-is; bytes_is = l.bytes_is ∙ ap length e }
line_by false line e l = record { count-is = l.count-is; bytes_is = l.bytes_is }

pub measured-line : {r : Size} {text : List ℕ} {there test : Bool} (line : List ℕ) → there ≡ test → text ≡ told line → LineMeasured r there text
    → Measured r (if test then line ∷ [] otherwise [])
measured-line {r} {text} {there} {test} line t e l = line_by test line e (subst (λ b. LineMeasured r b text) t l)
