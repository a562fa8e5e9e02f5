-- What is known of the bytes is known of the same bytes.
use Rattle.std.proofs.Common.{◌≡◌, ◌≤◌, drop, length, subst, sym}
use Rattle.std.proofs.Math.Option.{none}
use Rattle.text_rules.specs.Classes.{brace_close, brace_open}
use Rattle.source_rules.specs.Brackets.{partner}
use Rattle.search.specs.Open.{Open}
use Rattle.search.specs.Place.{Absent}
use Rattle.search.proofs.braces.Braces.lent_again.Goals as goal

pub invariant_of-result : goal.invariant_of-result
invariant_of-result c =
    let b = c.args.self in
    let same = sym c.requires in
    record {
      no_opening = subst (λ s. Absent brace_open s b.last_opening) same b.no_opening;
      no_closing = subst (λ s. Absent brace_close s b.last_closing) same b.no_closing;
      none_there = subst (λ s. partner brace_open brace_close b.depth b.at (drop b.at s) ≡ none) same b.none_there;
      inside = subst (λ s. b.at ≤ length s) same b.inside;
      latest_none = subst (λ s. Open s b.latest) same b.latest_none;
      older_none = subst (λ s. Open s b.older) same b.older_none;
    }
