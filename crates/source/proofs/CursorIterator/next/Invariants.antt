-- Each turn leaves the functions that are still to come, until one is found or the text ends.
use Rattle.std.proofs.Common.{◌-◌, ◌≤◌, ◌≡◌, length}
use Rattle.source.specs.Bytes.{bytes_of}
use Rattle.source.specs.View.{state_of}
use Rattle.source.specs.Cursors.{remaining}
use Rattle.source.proofs.CursorIterator.next.Given as goal

abbrev pub invariant-loop-self : goal.invariant-loop-self
invariant-loop-self l =
    record {
      text : bytes_of l.self.text ≡ bytes_of l.fn.self.text;
      same : remaining (bytes_of l.fn.self.text) (state_of l.fn.self) ≡ remaining (bytes_of l.fn.self.text) (state_of l.self);
      further : l.fn.self.at ≤ l.self.at;
    }

abbrev pub decreases-loop-self : goal.decreases-loop-self
decreases-loop-self l = length (bytes_of l.self.text) - l.self.at
