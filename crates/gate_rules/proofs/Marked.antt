-- The pairs and the marked cases of the rules, and the two example listings from the bytes of the example tree: one theorem for all.
use Rattle.std.specs.Prelude.{ℕ, ◌+◌, ◌≡◌, refl, true, false, List, [], ◌∷◌, replicate, take}
use Rattle.text_rules.specs.Bytes.{ascii, joined}
use Rattle.text_rules.specs.U32.{u32_bytes}
use Rattle.source_rules.specs.Blank.{blanked}
use Rattle.source_rules.specs.Measures.{cyclomatic_of, nesting_of}
use Rattle.source_rules.specs.Parameters.{params_of}
use Rattle.source_rules.specs.TextScan.{functions}
use Rattle.gate_rules.specs.Calls.{check_call}
use Rattle.gate_rules.proofs.Computes.{everything}
use Rattle.gate_rules.specs.Functions.{Fun, gate_limits, over}
use Rattle.gate_rules.specs.Gate.{gate}
use Rattle.gate_rules.specs.Mean.{mean_text}
use Rattle.gate_rules.specs.Report.{FileSum}
use Rattle.gate_rules.specs.ReportCall.{report_call}
use Rattle.gate_rules.specs.Tree.{tree_refusal}

-- a function with the four measures
abbrev pub measuring : (cyclomatic lines nesting params : ℕ) → Fun
measuring c l n p = record { path = []; name = []; line = 1; lines = l; cyclomatic = c; nesting = n; params = p }

-- a body that holds only a match with two arms of plain numbers
abbrev pub two_arms : List ℕ
two_arms = ascii "{ match x { 0 => 1, 2 => 3 } }"

-- a tree of one file with a path of so many bytes, and an empty text
abbrev pub long_path : ℕ → List ℕ
long_path n = joined (u32_bytes 1 ∷ u32_bytes 20 ∷ u32_bytes n ∷ u32_bytes (20 + n) ∷ u32_bytes 0 ∷ replicate n 97 ∷ [])

-- the example: one file a.rs with two functions
abbrev pub example_tree : List ℕ
example_tree =
    joined
    (u32_bytes 1 ∷ u32_bytes 20 ∷ u32_bytes 4 ∷ u32_bytes 24 ∷ u32_bytes 35
    ∷ ascii "a.rs"
    ∷ ascii "fn a() {}\nfn g(x: u8) {{{{{{}}}}}}\n"
    ∷ [])

abbrev pub buffer : List ℕ
buffer = replicate 300 0

abbrev pub table : List FileSum
table = record { file = 9; sum = 9 } ∷ record { file = 8; sum = 8 } ∷ []

pub record Marked : Type 0 where
  -- not over and over: 15/16, 100/101, 5/6, 7/8
  pub at_limits : over gate_limits (measuring 15 100 5 7) ≡ false
  pub over-cyclomatic : over gate_limits (measuring 16 100 5 7) ≡ true
  pub over-lines : over gate_limits (measuring 15 101 5 7) ≡ true
  pub over-nesting : over gate_limits (measuring 15 100 6 7) ≡ true
  pub over-params : over gate_limits (measuring 15 100 5 8) ≡ true
  -- a path of 1,024 bytes passes, 1,025 give 2
  pub path-passes : tree_refusal (long_path 1024) ≡ 0
  pub path_too_long : tree_refusal (long_path 1025) ≡ 2
  -- blanking
  pub escaped_quote : blanked (ascii "'\\''") ≡ ascii "   '"
  pub nested_comment : blanked (ascii "/*/**/*/x") ≡ ascii "        x"
  pub open_string : blanked (ascii "\"a\\") ≡ ascii "   "
  pub lifetime : blanked (ascii "&'a str") ≡ ascii "&'a str"
  pub raw_string : blanked (ascii "r#\"a\"#b") ≡ ascii "      b"
  -- `fn` with an opening parenthesis straight after it is no function; for every continuation in CountLaws
  pub fn_type : functions (ascii "fn(u8) -> u8 {}") ≡ []
  -- parameters
  pub mut_self : params_of (ascii "mut self, b") ≡ 1
  pub lifetime-self : params_of (ascii "&'a self") ≡ 1
  pub angle_below : params_of (ascii "a>, b") ≡ 1
  pub below-zero : params_of (ascii "self>,") ≡ 0
  -- measures of a body
  pub arms : cyclomatic_of two_arms ≡ 3
  pub arms_nest : nesting_of two_arms ≡ 2
  pub pairs : cyclomatic_of (ascii "{a||b&&c?}") ≡ 4
  -- means
  pub mean_even : mean_text 9 4 ≡ ascii "2.2"
  pub mean-exact : mean_text 23 20 ≡ ascii "1.1"
  -- the two listings
  pub report :
      let r = report_call gate gate_limits example_tree buffer buffer table buffer in
      take r.answer.written r.output
      ≡ joined
      (ascii "2 functions in src/\n"
      ∷ ascii "mean cyclomatic 1.0, over the thresholds: 1\n"
      ∷ ascii "\n"
      ∷ ascii "cyclo lines nest params  where\n"
      ∷ ascii "    1     1    6      1  a.rs:2 g\n"
      ∷ ascii "\n"
      ∷ ascii "heaviest files by total cyclomatic complexity\n"
      ∷ ascii "     2  a.rs\n"
      ∷ [])
  pub sums : (report_call gate gate_limits example_tree buffer buffer table buffer).sums ≡ record { file = 0; sum = 2 } ∷ record { file = 8; sum = 8 } ∷ []
  pub check :
      let c = check_call gate gate_limits example_tree [] buffer buffer buffer in
      take c.answer.written c.output
      ≡ joined
      (ascii "complexity: 1 regressions\n"
      ∷ ascii "  a.rs:2 g is new and over: cyclomatic 1 lines 1 nesting 6 params 1\n"
      ∷ [])

pub marked : Marked
unfolding everything
marked =
    record {
      at_limits = refl;
      over-cyclomatic = refl;
      over-lines = refl;
      over-nesting = refl;
      over-params = refl;
      path-passes = refl;
      path_too_long = refl;
      escaped_quote = refl;
      nested_comment = refl;
      open_string = refl;
      lifetime = refl;
      raw_string = refl;
      fn_type = refl;
      mut_self = refl;
      lifetime-self = refl;
      angle_below = refl;
      below-zero = refl;
      arms = refl;
      arms_nest = refl;
      pairs = refl;
      mean_even = refl;
      mean-exact = refl;
      report = refl;
      sums = refl;
      check = refl;
    }
