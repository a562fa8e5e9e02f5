-- What a cursor stands for, and what the steps of the search answer.
use Rattle.std.specs.Prelude.{ℕ, ◌+◌, ◌-◌, ◌≤◌, ◌<◌, ◌≡◌, ◌≢◌, List, [], ◌∷◌, length, take, drop, get_or, Option, None, Some, Result, Ok, Err}
use Rattle.std.proofs.Math.Option.{Option as MathOption, none, some}
use Rattle.std.proofs.Props.{props}
use Rattle.text_rules.specs.Bytes.{◌or_else◌}
use Rattle.text_rules.specs.Classes.{brace_close, brace_open, hash}
use Rattle.text_rules.specs.Search.{part}
use Rattle.source_rules.specs.Brackets.{partner}
use Rattle.source_rules.specs.Finding.{Places, function_at, function_from, span_length}
use Rattle.source_rules.specs.Measures.{cyclomatic_of, lines_of, nesting_of}
use Rattle.source_rules.specs.Parameters.{params_of}
use Rattle.source_rules.proofs.PlaceLaws.{block_from, places_at}
use Rattle.source_rules.specs.TextScan.{TextFun, functions_from, measured, sought}
use Rattle.source_rules.proofs.TextScanLaws.{Fine}
use Rattle.source_rules.proofs.TextScanSteps.{byte_before}
use Rattle.measures.specs.Walks.{Measured}
use Rattle.measures.specs.declared.Body.{Body}
use Rattle.passing.specs.declared.Spot.{Spot}
use Rattle.source.specs.declared.text.Brackets.{Brackets}
use Rattle.source.specs.State.{State}
use Rattle.source.specs.declared.Found.{Found}

-- the functions from a place on, where a test span ends at one place and the last body at another
unfoldable pub remaining_at : List ℕ → (at line span_end resume : ℕ) → List TextFun
remaining_at s at line span_end resume = functions_from span_length at line (span_end - at) (resume - at) (byte_before s at) (drop at s)

-- the functions that are still to come
unfoldable pub remaining : List ℕ → State → List TextFun
remaining s c = remaining_at s c.at c.line c.span_end c.resume

-- a function that was found, as the rules tell it
unfoldable pub text_fun : List ℕ → Found → TextFun
text_fun s f =
    record {
      name_at = f.name_at;
      name = take f.name_len (drop f.name_at s);
      line = f.line;
      lines = f.lines;
      cyclomatic = f.cyclomatic;
      nesting = f.nesting;
      params = f.params;
    }

-- no test span begins from one place up to another
unfoldable pub Spanless : List ℕ → ℕ → ℕ → Type 0
Spanless s from to = (x : ℕ) → from ≤ x → x < to → block_from s x ≡ none

-- no name that ends from one place up to another is followed by the brackets of a function
unfoldable pub Barren : List ℕ → ℕ → ℕ → Type 0
Barren s from to = (start x : ℕ) → from ≤ x → x < to → function_from start x s ≡ none

-- a cursor by its numbers
abbrev pub state : (text : List ℕ) (at line span_end resume spanless barren_from barren_to : ℕ) → State
state text at line span_end resume spanless barren_from barren_to =
    record { text = text; at = at; line = line; span_end = span_end; resume = resume; spanless = spanless; barren_from = barren_from; barren_to = barren_to }

-- what holds of a cursor in a text
pub record Ready (s : List ℕ) (c : State) : Type 0 where
  pub inside : c.at ≤ length s
  pub line-least : 1 ≤ c.line
  pub line-most : c.line ≤ c.at + 1
  pub no_span : Spanless s c.at c.spanless
  pub no_function : Barren s c.barren_from c.barren_to

spanless_prop : (s : List ℕ) (from to : ℕ) → IsProp (Spanless s from to)
unfolding Spanless
spanless_prop s from to = hlevel props

barren_prop : (s : List ℕ) (from to : ℕ) → IsProp (Barren s from to)
unfolding Barren
barren_prop s from to = hlevel props

-- it has one proof at most
pub ready_prop : (s : List ℕ) (c : State) → IsProp (Ready s c)
ready_prop s c = hlevel (props, spanless_prop, barren_prop)

-- a function is found, and the cursor behind it has the others. The function's numbers are at most the text's length
pub record Gives (s : List ℕ) (c : State) (f : Found) (d : State) : Type 0 where
  pub yields : remaining s c ≡ text_fun s f ∷ remaining s d
  pub text : d.text ≡ s
  pub further : c.at < d.at
  pub name-inside : f.name_at + f.name_len ≤ length s
  pub line-most : f.line ≤ length s
  pub lines-most : f.lines ≤ length s
  pub cyclomatic-most : f.cyclomatic ≤ length s
  pub nesting-most : f.nesting ≤ length s
  pub params-most : f.params ≤ length s
  pub fine : Fine s (text_fun s f)

-- and what holds of a cursor holds of that one
pub record Yields (s : List ℕ) (c : State) (f : Found) (d : State) : Type 0 where
  pub gives : Gives s c f d
  pub ready : Ready s d

-- a byte further a cursor has the same functions
pub record Skips (s : List ℕ) (c d : State) : Type 0 where
  pub same : remaining s c ≡ remaining s d
  pub text : d.text ≡ s
  pub further : d.at ≡ c.at + 1

-- and what holds of a cursor holds of that one
pub record Passes (s : List ℕ) (c d : State) : Type 0 where
  pub skips : Skips s c d
  pub ready : Ready s d

-- a cursor at another place
abbrev pub moved_to : State → ℕ → ℕ → State
moved_to c at line = record c { at = at; line = line }

-- a cursor with the end of another body, and other names behind which no brackets of a function are
abbrev pub with_name : State → (resume barren_from barren_to : ℕ) → State
with_name c resume barren_from barren_to = record c { resume = resume; barren_from = barren_from; barren_to = barren_to }

-- what is sought at the byte of a cursor
abbrev pub sought_at : List ℕ → State → MathOption Places
sought_at s c = sought (c.span_end - c.at) (c.resume - c.at) (byte_before s c.at) (drop c.at s)

-- nothing begins at a place: no test span, where none is open, and no function, where neither a span nor a body is
pub record Calm (s : List ℕ) (span_end resume at : ℕ) : Type 0 where
  pub no-mark : span_end ≤ at → get_or s at 0 ≢ hash
  pub no_word : span_end ≤ at → resume ≤ at → get_or s at 0 ≢ 102

-- only bytes at which nothing begins stand from one place to another: a cursor may go there
pub record Quieter (s : List ℕ) (from start span_end resume : ℕ) (r : Spot) : Type 0 where
  pub further : from ≤ r.at
  pub inside : r.at ≤ length s
  pub line-most : r.line ≤ r.at + 1
  pub passes : (c : State) → c.at ≡ from → c.line ≡ start → c.span_end ≡ span_end → c.resume ≡ resume → Ready s c → Ready s (moved_to c r.at r.line) × (remaining s c ≡ remaining s (moved_to c r.at r.line))

-- the text has ended: no function is left
pub record Ended (s : List ℕ) (c d : State) : Type 0 where
  pub all_found : remaining s c ≡ []
  pub none_left : remaining s d ≡ []
  pub text : d.text ≡ s
  pub ready : Ready s d

abbrev pub Stepped : List ℕ → State → Option Found → State → Type 0
Stepped s c (Some f) d = Yields s c f d
Stepped s c None d = Ended s c d

-- what a turn gives, whatever holds of a cursor
abbrev pub TurnGives : List ℕ → State → Option Found → State → Type 0
TurnGives s c (Some f) d = Gives s c f d
TurnGives s c None d = Skips s c d

abbrev pub Turned : List ℕ → State → Option Found → State → Type 0
Turned s c (Some f) d = Yields s c f d
Turned s c None d = Passes s c d

-- the test span at the byte of a cursor: its end, no further than the byte where there is none, and the place up to which none begins
pub record SpanAt (s : List ℕ) (c d : State) : Type 0 where
  pub left : d.span_end - c.at ≡ (c.span_end - c.at) or_else span_length (drop c.at s)
  pub no_span : Spanless s c.at d.spanless

-- the body whose opening brace stands at a place: where it ends and its measures, or that it is never closed
abbrev pub Blocked : List ℕ → ℕ → Option Body → Type 0
Blocked s at (Some b) = (partner brace_open brace_close 0 (at + 1) (drop (at + 1) s) ≡ some b.end) × Measured b.measures (part at (b.end + 1) s)
Blocked s at None = partner brace_open brace_close 0 (at + 1) (drop (at + 1) s) ≡ none

-- the brackets after a name that ends at a place
pub record Closed (s : List ℕ) (to : ℕ) (b : Brackets) : Type 0 where
  pub name-first : to ≤ b.opened
  pub list_order : b.opened < b.closed
  pub list_first : b.closed < b.body
  pub body-order : b.body < b.end
  pub inside : b.end < length s
  pub places : (from : ℕ) → function_from from to s ≡ some (places_at from to b.opened b.closed b.body b.end)
  pub measured : Measured b.measures (part b.body (b.end + 1) s)

pub record Missing (s : List ℕ) (to n : ℕ) : Type 0 where
  pub none_here : (from : ℕ) → function_from from to s ≡ none
  pub no_function : Barren s to n

abbrev pub Signed : List ℕ → ℕ → Result Brackets ℕ → Type 0
Signed s to (Ok b) = Closed s to b
Signed s to (Err n) = Missing s to n

-- what is measured of a function whose name and brackets are given
pub record FoundAt (s : List ℕ) (line from to : ℕ) (b : Brackets) (f : Found) : Type 0 where
  pub name-at-is : f.name_at ≡ from
  pub name_len_is : f.name_len ≡ to - from
  pub line-is : f.line ≡ line
  pub params_is : f.params ≡ params_of (part (b.opened + 1) b.closed s)
  pub lines-is : f.lines ≡ lines_of (part b.body (b.end + 1) s)
  pub cyclomatic-is : f.cyclomatic ≡ cyclomatic_of (part b.body (b.end + 1) s)
  pub nesting-is : f.nesting ≡ nesting_of (part b.body (b.end + 1) s)

-- the function at a place, whatever the number of its line
pub record GivenAt (s : List ℕ) (at line : ℕ) (f : Found) (end : ℕ) : Type 0 where
  pub places : Places
  pub found : function_at (drop at s) ≡ some places
  pub function_is : text_fun s f ≡ measured at line (drop at s) places
  pub end_is : end ≡ at + places.body_to
  pub name-inside : f.name_at + f.name_len ≤ length s

-- the function at a place
pub record MeasuredAt (s : List ℕ) (at line : ℕ) (f : Found) (end : ℕ) : Type 0 where
  pub places : Places
  pub found : function_at (drop at s) ≡ some places
  pub function_is : text_fun s f ≡ measured at line (drop at s) places
  pub end_is : end ≡ at + places.body_to
  pub name-inside : f.name_at + f.name_len ≤ length s
  pub fine : Fine s (text_fun s f)

-- what is found at the byte of a cursor
abbrev pub Measures : List ℕ → State → Option Found → State → Type 0
Measures s c (Some f) d = MeasuredAt s c.at c.line f d.resume
Measures s c None d = (function_at (drop c.at s) ≡ none) × (d.resume ≡ c.resume)
