-- What is known of the braces of a text, as facts of searches.
use Prim.Native.Nat.{ℕ, ◌+◌, ◌-◌, ◌≤◌}
use Rattle.std.specs.Prelude.{◌≡◌, List, drop, length}
use Rattle.std.proofs.Common.{◌∙◌, arith}
use Rattle.std.proofs.Math.Option.{none}
use Rattle.text_rules.specs.Classes.{brace_close, brace_open}
use Rattle.source_rules.specs.Brackets.{partner}
use Rattle.source_rules.proofs.WalkSteps.{partner-end}
use Rattle.search.specs.EndLaws.{no-partner, partner-more}
use Rattle.search.specs.Passing.{Passes}
use Rattle.search.specs.declared.Unmatched.{Unmatched}
use Rattle.search.specs.declared.braces.Braces.{Braces}

-- behind the last `}` no brace has a partner
pub closed_before : (from depth : ℕ) (b : Braces) → b.last_closing ≤ from → partner brace_open brace_close depth from (drop from b.text.now) ≡ none
closed_before from depth b h = no-partner brace_open brace_close b.text.now b.last_closing from depth b.no_closing h

-- nor has one with as many open inside it as are known
pub deep_open : (d : ℕ) (b : Braces) → b.depth ≤ d → partner brace_open brace_close d b.at (drop b.at b.text.now) ≡ none
deep_open d b h = partner-more brace_open brace_close (drop b.at b.text.now) b.depth d b.at h b.none_there

-- nor has any at the end
pub past_all : (at depth : ℕ) (s : List ℕ) → length s ≤ at → partner brace_open brace_close depth at (drop at s) ≡ none
past_all at depth s h = partner-end s at h brace_open brace_close depth

-- nor has one with as many open inside it as are closed up to there
pub never_closed : (s : List ℕ) (from to : ℕ) (u : Unmatched) → length s ≤ to → Passes s brace_open brace_close from to u → partner brace_open brace_close u.closed from (drop from s) ≡ none
never_closed s from to u l p = p u.closed (omega arith) ∙ past_all to (u.closed - u.closed + u.opened) s l
