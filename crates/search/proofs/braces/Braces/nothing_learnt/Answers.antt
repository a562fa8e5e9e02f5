-- Behind the last brace of each kind there is none.
use Rattle.std.proofs.Common.{arith}
use Rattle.text_rules.specs.Classes.{brace_close, brace_open}
use Rattle.search.specs.EndLaws.{no-partner}
use Rattle.search.proofs.Finds.{none_behind}
use Rattle.search.proofs.braces.Braces.nothing_learnt.Goals as goal

pub invariant_of-result : goal.invariant_of-result
invariant_of-result c =
    let s = c.args.text.now in
    let closing = none_behind s brace_close c.behind_last-last_closing.result (λ z. omega arith) c.behind_last-last_closing.ensures.none_behind in
    record {
      no_opening = none_behind s brace_open c.behind_last.result (λ z. omega arith) c.behind_last.ensures.none_behind;
      no_closing = closing;
      none_there = no-partner brace_open brace_close s _ _ 0 closing (omega arith);
      inside = c.behind_last-last_closing.ensures.inside;
      latest_none = tt;
      older_none = tt;
    }
