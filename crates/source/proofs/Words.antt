-- What is sought at the byte of a cursor.
use Prim.Native.Nat.{ℕ, ◌+◌, ◌-◌, ◌≤◌, ◌<◌}
use Rattle.std.specs.Prelude.{◌≡◌, ◌≢◌, true, false, List, drop, length, get_or}
use Rattle.std.proofs.Common.{arith}
use Rattle.std.proofs.Math.Option.{Option, none}
use Rattle.source_rules.specs.Finding.{Places, function_at, is_fn}
use Rattle.source_rules.specs.TextScan.{sought}
use Rattle.source_rules.proofs.TextScanSteps.{byte_before, fn_inside, other_byte}
use Rattle.source_rules.proofs.WalkSteps.{sought_in_span, sought-no_word, sought-skipped, sought_word}

module _ (s : List ℕ) (at span_end resume : ℕ) where
  abbrev here : Option Places
  here = sought (span_end - at) (resume - at) (byte_before s at) (drop at s)

  pub no_f : at < length s → get_or s at 0 ≢ 102 → here ≡ none
  no_f h n = sought-no_word (span_end - at) (resume - at) (byte_before s at) (drop at s) (other_byte s at h (byte_before s at) n)

  pub in_span : at < span_end → here ≡ none
  in_span h = sought_in_span (span_end - at) (resume - at) (byte_before s at) (drop at s) (λ z. omega arith)

  pub in_body : at < resume → here ≡ none
  in_body h = sought-skipped (span_end - at) (resume - at) (byte_before s at) (drop at s) (λ z. omega arith)

  pub no_word : is_fn (byte_before s at) (drop at s) ≡ false → here ≡ none
  no_word e = sought-no_word (span_end - at) (resume - at) (byte_before s at) (drop at s) e

  pub word : span_end ≤ at → resume ≤ at → is_fn (byte_before s at) (drop at s) ≡ true → here ≡ function_at (drop at s)
  word h k e = sought_word (span_end - at) (resume - at) (byte_before s at) (drop at s) (omega arith) (omega arith) e

  pub word_inside : at < length s → is_fn (byte_before s at) (drop at s) ≡ true → at + 2 ≤ length s
  word_inside h e = fn_inside s at h (byte_before s at) e

-- all of these
pub ruleset at_byte = (no_f, in_span, in_body, no_word, word, word_inside)
