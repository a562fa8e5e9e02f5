-- Each turn is one step of the depth and one of the lines. The depth is never more than what was reached, so only an opening brace can reach more. At 0
-- one less is 0, as in the definition.
use Rattle.std.proofs.Common.{◌≡◌, ◌≤◌, ◌+◌, drop}
use Rattle.source_rules.specs.Measures.{deepest, line_at, lines_of, nesting_of}
use Rattle.measures.proofs.walk.Given as goal

abbrev pub invariant-loop-b : goal.invariant-loop-b
invariant-loop-b l =
    record {
      reached : l.depth ≤ l.nesting;
      nesting_most : l.nesting ≤ l.b-index;
      lines_most : l.lines ≤ l.b-index + 1;
      nesting_same : deepest l.nesting l.depth (drop l.b-index l.body) ≡ nesting_of l.body;
      lines_same : line_at l.lines (drop l.b-index l.body) ≡ lines_of l.body;
    }
