-- The keys of a line are written, and those of the lines behind it remain.
use Rattle.std.proofs.Common.{ℕ, ◌+◌, ◌≡◌, ◌++◌, ap, subst, sym, ◌∙◌, drop, arith}
use Rattle.baseline.specs.Ordered.{keys-end, keys_in}
use Rattle.listing.specs.Writes.{remains_next, remains_none, remains_room}
use Rattle.listed_keys.specs.KeyLines.{key_lines, lines-append, none_lines}
use Rattle.listed_keys.specs.Plain.{Begins, keys_at, line_end}
use Rattle.listed_keys.specs.Wholes.{line-keys, next-begins}
use Rattle.listed_keys.proofs.write_whole.Goals as goal

pub write_entry-from-requires-clause-room : goal.write_entry-from-requires-clause-room
write_entry-from-requires-clause-room c =
    let lines = c.args.lines.now in
    let from = c.loop-from.from in
    let rest = keys_in (drop (line_end lines from + 1) lines) in
    remains_room _ (key_lines rest) c.loop-from.invariant.rest (ap key_lines (line-keys lines from) ∙ lines-append (keys_at lines from) rest)

pub loop-from-preserved : goal.loop-from-preserved
loop-from-preserved c =
    let lines = c.args.lines.now in
    let from = c.loop-from.from in
    let end = c.write_entry-from.result in
    let is : end ≡ line_end lines from = c.write_entry-from.ensures.end in
    let mine = keys_at lines from in
    let rest = keys_in (drop (end + 1) lines) in
    let step : keys_in (drop from lines) ≡ mine ++ rest = line-keys lines from ∙ ap (λ (e : ℕ). mine ++ keys_in (drop (e + 1) lines)) (sym is) in
    record {
      begins = λ h. subst (λ (j : ℕ). Begins lines (j + 1)) (sym is) (next-begins lines from (omega (arith, h, is)));
      rest = remains_next (key_lines rest) c.loop-from.invariant.rest (ap key_lines step ∙ lines-append mine rest) c.write_entry-from.ensures.written;
    }

pub returns : goal.returns
returns c =
    let lines = c.args.lines.now in
    remains_none c.loop-from.invariant.rest (none_lines (keys_in (drop c.loop-from.from lines)) (keys-end lines c.loop-from.from c.loop-from-test.false))
