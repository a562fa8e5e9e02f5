-- A program reads one byte more of a file than it takes, and no more: what it prints and writes is the same as if it had read the whole file.
use Rattle.std.specs.Prelude.{ℕ, zero, suc, ◌<◌, ◌≡◌, refl, ◌⊎◌, Bool, true, false, List, ltb, length, take}
use Rattle.std.proofs.Common.{ap, sym, ◌∙◌, inl, inr, arith, length-take, take_all, lt-ltb, ltb-false, ltb-true}
use Rattle.text_rules.specs.Bytes.{◌or_else◌, ◌when◌}
use Rattle.text_rules.specs.BytesLaws.{whether}
use Rattle.gate_rules.proofs.ProgramLaws.{check_longer, report_longer, update_longer, update-no-file}
use Rattle.gate_rules.specs.Programs.{check_program, printed, program_bytes, report_program, update_file, update_program}
use Rattle.gate_rules.specs.Tree.{tree_refusal}

-- what is read of a file
abbrev pub read : List ℕ → List ℕ
read file = take 65537 file

-- it is the whole file, or both are too long
read_whole : (file : List ℕ) → (read file ≡ file) ⊎ ((65536 < length (read file)) × (65536 < length file))
read_whole file =
    elim (whether (ltb 65536 (length file))) [
      | inl t ↦ let long = ltb-true 65536 (length file) t in inr (omega (arith, long, length-take 65537 file), long)
      | inr t ↦ let short = ltb-false 65536 (length file) t in inl (take_all 65537 file (omega (arith, short)))
    ]

-- the report
pub report-cut : (tree : List ℕ) → report_program (read tree) ≡ report_program tree
report-cut tree =
    elim (read_whole tree) [ inl same ↦ ap report_program same | inr long ↦ report_longer (read tree) long.0 ∙ sym (report_longer tree long.1) ]

-- update: what is printed and what is written
pub update-cut : (tree : List ℕ) → (update_program (read tree) ≡ update_program tree) × (update_file (read tree) ≡ update_file tree)
update-cut tree =
    elim (read_whole tree) [
      | inl same ↦ (ap update_program same, ap update_file same)
      | inr long ↦ (update_longer (read tree) long.0 ∙ sym (update_longer tree long.1), update-no-file (read tree) long.0 ∙ sym (update-no-file tree long.1))
    ]

-- of a baseline that is too long only that matters
long_same : (a : Bool) (t : ℕ) (text text' : List ℕ) → printed (1 when a or_else t or_else 7) text ≡ printed (1 when a or_else t or_else 7) text'
long_same true t text text' = refl
long_same false zero text text' = refl
long_same false (suc t) text text' = refl

check-long : (tree baseline baseline' : List ℕ) → 65536 < length baseline → 65536 < length baseline' → check_program tree baseline ≡ check_program tree baseline'
unfolding check_program
check-long tree baseline baseline' h h' =
    rw (lt-ltb program_bytes (length baseline) h, lt-ltb program_bytes (length baseline') h') (long_same (ltb program_bytes (length tree)) (tree_refusal tree) _ _)

-- check, with both its files
pub check-cut : (tree baseline : List ℕ) → check_program (read tree) (read baseline) ≡ check_program tree baseline
check-cut tree baseline =
    let rest : check_program tree (read baseline) ≡ check_program tree baseline =
    elim (read_whole baseline) [ inl same ↦ ap (check_program tree) same | inr long ↦ check-long tree (read baseline) baseline long.0 long.1 ] in
    elim (read_whole tree) [
      | inl same ↦ ap (λ t. check_program t (read baseline)) same ∙ rest
      | inr long ↦ check_longer (read tree) long.0 (read baseline) ∙ sym (check_longer tree long.1 baseline)
    ]
