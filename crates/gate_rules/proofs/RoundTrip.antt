-- What update writes, check reads back: the entries of the text are those of the functions recorded, in order.
use Rattle.std.specs.Prelude.{ℕ, ◌<◌, ◌≡◌, refl, ◌≢◌, true, false, List, [], ◌∷◌, ◌++◌, map}
use Rattle.std.proofs.Common.{append-nil, arith}
use Rattle.std.proofs.Math.Option.{some}
use Rattle.text_rules.specs.Bytes.{All, Lacks, Plain, ◌∈◌}
use Rattle.text_rules.specs.BytesLaws.{All-append, All-at, All_in, All-map, kept-all, kept_in}
use Rattle.text_rules.specs.Decimal.{decimal}
use Rattle.text_rules.proofs.DecimalLaws.{decimal-plain, decimal-read}
use Rattle.text_rules.specs.Lines.{ended, fields, in_front, lines_in, split, without_cr}
use Rattle.text_rules.proofs.LinesLaws.{keeps-end, lines_next, split-first, split-last, split-some}
use Rattle.text_rules.proofs.OrderLaws.{sort-all, sort_in}
use Rattle.text_rules.specs.Utf8
use Rattle.text_rules.specs.Utf8.{is_utf8}
use Rattle.text_rules.proofs.Utf8Laws.{utf8_append, utf8-ascii}
use Rattle.gate_rules.specs.Baseline.{Entry, entries, entries_of_lines, entry_of, entry_of_fields}
use Rattle.gate_rules.specs.Functions.{Fun, Limits, is_comment, over}
use Rattle.gate_rules.specs.Scan.{WellMade}
use Rattle.gate_rules.specs.Update.{baseline_text, header, over_limit, recorded, row, row_before, rows}

-- the entry of a function's row
abbrev pub entry_for : Fun → Entry
entry_for f = record { path = f.path; name = f.name; cyclomatic = f.cyclomatic; lines = f.lines }

plain-lacks : (mark : ℕ) → mark < 48 → (s : List ℕ) → All Plain s → Lacks mark s
plain-lacks mark h s p = All-map Plain (λ b. b ≢ mark) (λ b q. omega arith) s p

decimal-lacks : (mark : ℕ) → mark < 48 → (n : ℕ) → Lacks mark (decimal n)
decimal-lacks mark h n = plain-lacks mark h (decimal n) (decimal-plain n)

-- what stands in a row after the name, and after the path
numbers_of : Fun → List ℕ
numbers_of f = decimal f.cyclomatic ++ 9 ∷ decimal f.lines

tail_of : Fun → List ℕ
tail_of f = f.name ++ 9 ∷ numbers_of f

row_is : (f : Fun) → row f ≡ f.path ++ 9 ∷ tail_of f
unfolding row tail_of numbers_of
row_is f = rw append-nil

tail_lacks : (mark : ℕ) → mark < 48 → mark ≢ 9 → (f : Fun) → WellMade f → Lacks mark (tail_of f)
unfolding tail_of numbers_of
tail_lacks mark h n f w =
    let numbers : Lacks mark (numbers_of f) =
    All-append _ (decimal f.cyclomatic) (9 ∷ decimal f.lines) (decimal-lacks mark h f.cyclomatic) (omega arith, decimal-lacks mark h f.lines) in
    All-append _ f.name (9 ∷ numbers_of f) (plain-lacks mark h f.name w.name-plain) (omega arith, numbers)

row_one_line : (f : Fun) → WellMade f → Lacks 10 (row f)
row_one_line f w = rw (row_is f) (All-append _ f.path (9 ∷ tail_of f) w.path-LF (omega arith, tail_lacks 10 (omega arith) (omega arith) f w))

row_ends : (f : Fun) → WellMade f → without_cr (row f) ≡ row f
row_ends f w = rw (row_is f) (keeps-end f.path 9 (tail_of f) (omega arith, tail_lacks 13 (omega arith) (omega arith) f w))

row-fields : (f : Fun) → WellMade f → fields (row f) ≡ f.path ∷ f.name ∷ decimal f.cyclomatic ∷ decimal f.lines ∷ []
unfolding fields tail_of numbers_of
row-fields f w =
    rw (
      row_is f,
      split-first 9 f.path (tail_of f) w.path-tab,
      split-first 9 f.name (numbers_of f) (plain-lacks 9 (omega arith) f.name w.name-plain),
      split-first 9 (decimal f.cyclomatic) (decimal f.lines) (decimal-lacks 9 (omega arith) f.cyclomatic),
      split-last 9 (decimal f.lines) (decimal-lacks 9 (omega arith) f.lines),
    )

no_comment_append : (s t : List ℕ) → is_comment s ≡ false → is_comment (s ++ 9 ∷ t) ≡ false
unfolding is_comment
no_comment_append [] t h = refl
no_comment_append (b ∷ s) t h = h

row-entry : (f : Fun) → WellMade f → entry_of (row f) ≡ some (entry_for f)
unfolding entry_of entry_of_fields
row-entry f w =
    let no_comment : is_comment (row f) ≡ false = rw (row_is f) (no_comment_append f.path (tail_of f) w.path-starts) in
    rw (
      no_comment,
      row-fields f w,
      decimal-read 4294967295 f.cyclomatic (omega arith),
      decimal-read 18446744073709551615 f.lines (omega arith),
    )

rows-entries : (fs : List Fun) → All WellMade fs → entries_of_lines (rows fs) ≡ map entry_for fs
unfolding entries_of_lines rows lines_in ended split entry_of is_comment fields entry_of_fields
rows-entries [] h = refl
rows-entries (f ∷ fs) h = rw (lines_next (row f) (rows fs) (row_one_line f h.0), row_ends f h.0, row-entry f h.0, rows-entries fs h.1)

header-entries : (t : List ℕ) → entries_of_lines (header ++ t) ≡ entries_of_lines t
unfolding entries_of_lines header lines_in ended split in_front without_cr entry_of is_comment
header-entries t = let (p, ps, e) = split-some 10 t in rw e

-- the text is UTF-8
plain-utf8 : (s : List ℕ) → All Plain s → is_utf8 s ≡ true
plain-utf8 s p = utf8-ascii s (All-map Plain (λ b. b < 128) (λ b q. omega arith) s p)

tab-utf8 : (s t : List ℕ) → is_utf8 s ≡ true → is_utf8 t ≡ true → is_utf8 (s ++ 9 ∷ t) ≡ true
tab-utf8 s t h k = utf8_append s (9 ∷ t) h (utf8_append (9 ∷ []) t (utf8-ascii (9 ∷ []) (omega arith, tt)) k)

row-utf8 : (f : Fun) → WellMade f → is_utf8 (row f) ≡ true
unfolding tail_of numbers_of
row-utf8 f w =
    rw (row_is f)
    (tab-utf8 f.path (tail_of f) w.path-utf8
    (tab-utf8 f.name (numbers_of f) (plain-utf8 f.name w.name-plain)
    (tab-utf8 (decimal f.cyclomatic) (decimal f.lines) (plain-utf8 _ (decimal-plain f.cyclomatic)) (plain-utf8 _ (decimal-plain f.lines)))))

rows-utf8 : (fs : List Fun) → All WellMade fs → is_utf8 (rows fs) ≡ true
unfolding rows
rows-utf8 [] h = utf8-ascii [] tt
rows-utf8 (f ∷ fs) h = utf8_append (row f) _ (row-utf8 f h.0) (utf8_append (10 ∷ []) (rows fs) (utf8-ascii (10 ∷ []) (omega arith, tt)) (rows-utf8 fs h.1))

header-utf8 : is_utf8 header ≡ true
unfolding is_utf8 header Utf8.well_formed_after Utf8.follow Utf8.within
header-utf8 = refl

module _ (L : Limits) where
  -- what holds of every function holds of each that is recorded, and that is over-limit
  pub recorded-all : (P : Fun → Type 0) (fs : List Fun) → All P fs → All (λ f. P f × (over L f ≡ true)) (recorded L fs)
  unfolding recorded over_limit
  recorded-all P fs h = sort-all row_before _ (over_limit L fs) (kept-all (over L) P fs h)

  -- each function that is recorded is one of the functions, and over-limit
  pub recorded_in : (fs : List Fun) {f : Fun} → f ∈ recorded L fs → (f ∈ fs) × (over L f ≡ true)
  recorded_in fs m = All-at (λ f. (f ∈ fs) × (over L f ≡ true)) (recorded L fs) (recorded-all (λ f. f ∈ fs) fs (All_in fs)) m

  -- and each over-limit function is recorded
  pub in_recorded : (fs : List Fun) {f : Fun} → f ∈ fs → over L f ≡ true → f ∈ recorded L fs
  unfolding recorded over_limit
  in_recorded fs m h = sort_in row_before (over_limit L fs) (kept_in (over L) fs m h)

  -- the entries of the text that update writes
  pub written-entries : (fs : List Fun) → All WellMade fs → entries (baseline_text L fs) ≡ map entry_for (recorded L fs)
  unfolding entries baseline_text
  written-entries fs h =
      let made : All WellMade (recorded L fs) = All-map _ WellMade (λ f w. w.0) (recorded L fs) (recorded-all WellMade fs h) in
      rw (utf8_append header (rows (recorded L fs)) header-utf8 (rows-utf8 (recorded L fs) made), header-entries (rows (recorded L fs)), rows-entries (recorded L fs) made)
