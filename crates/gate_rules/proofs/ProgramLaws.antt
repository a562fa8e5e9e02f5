-- What the programs print for what they cannot take: a longer tree prints 1, a longer baseline 7 where the tree itself is not refused.
use Rattle.std.specs.Prelude.{ℕ, ◌≤◌, ◌<◌, ◌≡◌, List, length}
use Rattle.std.proofs.Math.Option.{none}
use Rattle.std.proofs.Common.{le-ltb, lt-ltb}
use Rattle.text_rules.specs.Bytes.{ascii}
use Rattle.text_rules.specs.Decimal.{decimal, digits}
use Rattle.gate_rules.specs.Programs.{check_program, program_bytes, report_program, update_file, update_program}
use Rattle.gate_rules.specs.Tree.{tree_refusal}

module _ (tree : List ℕ) (long : 65536 < length tree) where
  pub report_longer : report_program tree ≡ ascii "1\n"
  unfolding report_program decimal digits
  report_longer = rw (lt-ltb program_bytes (length tree) long)

  pub check_longer : (baseline : List ℕ) → check_program tree baseline ≡ ascii "1\n"
  unfolding check_program decimal digits
  check_longer baseline = rw (lt-ltb program_bytes (length tree) long)

  pub update_longer : update_program tree ≡ ascii "1\n"
  unfolding update_program decimal digits
  update_longer = rw (lt-ltb program_bytes (length tree) long)

  -- and no file is written
  pub update-no-file : update_file tree ≡ none
  unfolding update_file
  update-no-file = rw (lt-ltb program_bytes (length tree) long)

pub check_longer_baseline : (tree baseline : List ℕ) → length tree ≤ 65536 → tree_refusal tree ≡ 0 → 65536 < length baseline → check_program tree baseline ≡ ascii "7\n"
unfolding check_program decimal digits
check_longer_baseline tree baseline short good long = rw (le-ltb program_bytes (length tree) short, good, lt-ltb program_bytes (length baseline) long)
