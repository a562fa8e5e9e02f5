-- Small named cases, one theorem, those of texts among them: each rules out a definition that is wrong in one place and right elsewhere.
use Rattle.std.specs.Prelude.{ℕ, ◌≡◌, refl, List, [], ◌∷◌, map, replicate}
use Rattle.std.proofs.Math.Option.{some}
use Rattle.text_rules.specs.Bytes.{ascii}
use Rattle.source_rules.proofs.TextCorners.{TextCorners, text-corners}
use Rattle.gate_rules.specs.Baseline.{Entry, entries, lookup}
use Rattle.gate_rules.specs.Calls.{update_answer}
use Rattle.gate_rules.specs.Check.{listing, stale}
use Rattle.gate_rules.proofs.Computes.{everything}
use Rattle.gate_rules.specs.Exports.{exported_check}
use Rattle.gate_rules.specs.Functions.{Fun, gate_limits}
use Rattle.gate_rules.specs.Gate.{functions_of_files, gate}
use Rattle.gate_rules.specs.Mean.{mean_text}
use Rattle.gate_rules.specs.Pack.{InputFile, packed}
use Rattle.gate_rules.specs.Report.{heaviest, reported, weights}
use Rattle.gate_rules.specs.Scan.{File}
use Rattle.gate_rules.specs.Tree.{tree_refusal}
use Rattle.gate_rules.specs.Update.{baseline_text, recorded}

abbrev pub fun : (path name : List ℕ) (cyclomatic nesting : ℕ) → Fun
fun p n c d = record { path = p; name = n; line = 1; lines = 1; cyclomatic = c; nesting = d; params = 0 }

abbrev pub entry : (path name : List ℕ) (cyclomatic lines : ℕ) → Entry
entry p n c l = record { path = p; name = n; cyclomatic = c; lines = l }

abbrev pub file : (path text : List ℕ) → InputFile
file p t = record { path = p; text = t }

abbrev pub blank_file : (path blanked : List ℕ) → File
blank_file p t = record { path = p; blanked = t }

pub record Corners : Type 0 where
  pub texts : TextCorners
  -- the baseline: the last of equal keys, CR before LF and CR at the end, +, a fifth field, numbers past u32, comments
  pub read_back :
      entries (ascii "# x\ta\t1\t1\np\tf\t1\t2\r\np\tf\t+03\t4\tmore\n\np\tf\t5\nq\tf\t4294967296\t1\nq\tf\t1\t18446744073709551615\nq\tf\t1\t2\r")
      ≡ entry (ascii "p") (ascii "f") 1 2 ∷ entry (ascii "p") (ascii "f") 3 4 ∷ entry (ascii "q") (ascii "f") 1 18446744073709551615 ∷ []
  pub last_wins : lookup (ascii "p\tf") (entry (ascii "p") (ascii "f") 1 2 ∷ entry (ascii "p") (ascii "f") 3 4 ∷ []) ≡ some (entry (ascii "p") (ascii "f") 3 4)
  pub not_utf8 : entries (0xFF ∷ 10 ∷ ascii "p\tf\t1\t2\n") ≡ []
  -- a path byte below tab decides before the path ends; each key once
  pub stale-keys :
      stale (entry (ascii "a") (ascii "z") 1 1 ∷ entry (ascii "a\u{1}") (ascii "b") 1 1 ∷ entry (ascii "a") (ascii "z") 2 2 ∷ []) []
      ≡ ascii "a\u{1}\tb" ∷ ascii "a\tz" ∷ []
  -- orders
  pub update-order :
      recorded gate_limits (fun (ascii "b") (ascii "f") 16 1 ∷ fun (ascii "a/b") (ascii "g") 17 1 ∷ fun (ascii "a.b") (ascii "f") 18 1 ∷ fun (ascii "b") (ascii "f") 20 1 ∷ fun (ascii "b") (ascii "e") 19 1 ∷ [])
      ≡ fun (ascii "a.b") (ascii "f") 18 1 ∷ fun (ascii "a/b") (ascii "g") 17 1 ∷ fun (ascii "b") (ascii "e") 19 1 ∷ fun (ascii "b") (ascii "f") 16 1 ∷ fun (ascii "b") (ascii "f") 20 1 ∷ []
  pub report-order :
      reported gate_limits (fun (ascii "b") (ascii "f") 16 1 ∷ fun (ascii "b") (ascii "e") 16 1 ∷ fun (ascii "a") (ascii "g") 16 1 ∷ fun (ascii "c") (ascii "h") 17 1 ∷ [])
      ≡ fun (ascii "c") (ascii "h") 17 1 ∷ fun (ascii "a") (ascii "g") 16 1 ∷ fun (ascii "b") (ascii "f") 16 1 ∷ fun (ascii "b") (ascii "e") 16 1 ∷ []
  -- listings
  pub update-text :
      baseline_text gate_limits (fun (ascii "a.rs") (ascii "f") 16 1 ∷ [])
      ≡ ascii "# Accepted complexity, written by `cargo run --bin complexity -- --update`.\n#\n# Only functions over the thresholds are listed. `--check` fails when one of\n# these gets worse, or when a function not listed here goes over. Most of\n# these are one Rust function per Fortran subroutine, which is deliberate:\n# see the module documentation in src/bin/complexity.rs.\n#\n# file\tfunction\tcyclomatic\tlines\na.rs\tf\t16\t1\n"
  pub stale-first :
      listing gate_limits (entry (ascii "a.rs") (ascii "f") 2 0 ∷ entry (ascii "b") (ascii "z") 1 1 ∷ []) (fun (ascii "a.rs") (ascii "f") 3 9 ∷ [])
      ≡ ascii "1 baseline entries no longer exist:\n  b z\nrun --update to drop them\ncomplexity: 2 regressions\n  a.rs:1 f cyclomatic 3 was 2\n  a.rs:1 f is 1 lines, was 0\n"
  pub equal-passes : listing gate_limits (entry (ascii "a.rs") (ascii "f") 3 1 ∷ []) (fun (ascii "a.rs") (ascii "f") 3 9 ∷ []) ≡ ascii "complexity: no function got worse, nothing new is over the thresholds\n"
  pub mean-none : mean_text 0 0 ≡ ascii "0.0"
  pub mean-large : mean_text 16777215 2 ≡ ascii "8388607.5"
  -- trees: a text that is not UTF-8; `/` below every other byte; 3 before 4
  pub bad_text : tree_refusal (packed (file (ascii "a") (0xFF ∷ []) ∷ [])) ≡ 4
  pub slash-below : tree_refusal (packed (file (ascii "a/b") [] ∷ file (ascii "a.b") [] ∷ [])) ≡ 0
  pub slash-above : tree_refusal (packed (file (ascii "a.b") [] ∷ file (ascii "a/b") [] ∷ [])) ≡ 3
  pub path-first : tree_refusal (packed (file (ascii "a") (0xFF ∷ []) ∷ file (ascii "#") [] ∷ [])) ≡ 3
  -- ten of eleven files, the lightest left out; and a file with one function counts, one without does not
  pub ten_files : map (λ w. w.sum) (heaviest (map (λ n. record { path = n ∷ []; functions = 1; sum = n }) (3 ∷ 1 ∷ 4 ∷ 15 ∷ 9 ∷ 2 ∷ 6 ∷ 5 ∷ 35 ∷ 8 ∷ 97 ∷ []))) ≡ 97 ∷ 35 ∷ 15 ∷ 9 ∷ 8 ∷ 6 ∷ 5 ∷ 4 ∷ 3 ∷ 2 ∷ []
  pub small-files : map (λ w. w.path) (weights functions_of_files (blank_file (ascii "a") (ascii "fn a(){}") ∷ blank_file (ascii "b") [] ∷ [])) ≡ ascii "a" ∷ []
  -- one row is recorded; 16 bytes hold check's counts, 15 do not
  pub one-recorded : (update_answer gate_limits 0 (fun (ascii "a") (ascii "f") 16 1 ∷ fun (ascii "a") (ascii "g") 1 1 ∷ [])).recorded ≡ 1
  pub count_bytes : map (λ n. (exported_check gate gate_limits (packed []) [] (ascii "0123") [] (replicate 100 0) (replicate n 0)).number) (15 ∷ 16 ∷ []) ≡ 5 ∷ 0 ∷ []

pub corners : Corners
unfolding everything
corners =
    record {
      texts = text-corners;
      read_back = refl;
      last_wins = refl;
      not_utf8 = refl;
      stale-keys = refl;
      update-order = refl;
      report-order = refl;
      update-text = refl;
      stale-first = refl;
      equal-passes = refl;
      mean-none = refl;
      mean-large = refl;
      bad_text = refl;
      slash-below = refl;
      slash-above = refl;
      path-first = refl;
      ten_files = refl;
      small-files = refl;
      one-recorded = refl;
      count_bytes = refl;
    }
