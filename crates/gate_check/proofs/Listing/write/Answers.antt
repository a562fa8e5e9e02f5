-- The verdict is put behind the text about the stale entries.
use Rattle.std.proofs.Common.{ap, arith, length, subst, sym}
use Rattle.gate_rules.specs.Baseline.{entries_of_lines}
use Rattle.gate_rules.specs.Check.{stale_text}
use Rattle.gate_rules.specs.Gate.{gate}
use Rattle.gate_rules.specs.Scan.{functions_of}
use Rattle.functions.specs.Shown.{limits_of}
use Rattle.listing.specs.Writes.{Writes}
use Rattle.check_texts.specs.Texts.{both-length, both-put}
use Rattle.gate_check.proofs.Reading.{same_stale}
use Rattle.gate_check.proofs.Listing.write.Goals as goal

pub write_stale-requires-clause-counted : goal.write_stale-requires-clause-counted
write_stale-requires-clause-counted c = c.args.self.stale_sizes.0

pub write_stale-requires-clause-room : goal.write_stale-requires-clause-room
write_stale-requires-clause-room c =
    let l = c.args.self in
    omega (
      arith,
      c.requires,
      both-length (limits_of l.limits) (entries_of_lines l.entries.lines.now) (functions_of gate l.entries.functions.tree.now),
      ap (λ ks. length (stale_text ks)) (same_stale l.tree l.lines),
    )

pub write_verdict-requires-clause-room : goal.write_verdict-requires-clause-room
write_verdict-requires-clause-room c =
    let l = c.args.self in
    let wrote = c.write_stale.ensures in
    omega (
      arith,
      c.requires,
      both-length (limits_of l.limits) (entries_of_lines l.entries.lines.now) (functions_of gate l.entries.functions.tree.now),
      ap (λ ks. length (stale_text ks)) (same_stale l.tree l.lines),
      wrote.place,
      wrote.size,
    )

pub returns : goal.returns
returns c =
    let l = c.args.self in
    both-put (limits_of l.limits) (entries_of_lines l.entries.lines.now) (functions_of gate l.entries.functions.tree.now)
    (subst (λ ks. Writes (stale_text ks) c.args.w.now c.write_stale.new.w) (sym (same_stale l.tree l.lines)) c.write_stale.ensures) c.write_verdict.ensures
