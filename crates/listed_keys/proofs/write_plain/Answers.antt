-- Each part is written behind the one before, and the two fields with a space between them are the key with a space for its tab.
use Rattle.std.proofs.Common.{◌+◌, ap, arith, drop, subst}
use Rattle.text_rules.specs.Classes.{tab}
use Rattle.text_rules.specs.Search.{bytes_before}
use Rattle.listing.specs.Writes.{Writes, writes_then}
use Rattle.listed_keys.specs.Plain.{first_field}
use Rattle.listed_keys.specs.Wholes.{field_length, key-line, line-size}
use Rattle.listed_keys.proofs.write_plain.Goals as goal

pub text-requires : goal.text-requires
text-requires c =
    let a = c.args in
    let size = line-size a.lines.now a.from (omega (arith, c.requires.inside)) (omega (arith, c.requires.inside)) in
    omega (arith, size, c.requires.room)

pub write_field-path_end-requires-clause-room : goal.write_field-path_end-requires-clause-room
write_field-path_end-requires-clause-room c =
    let a = c.args in
    let size = line-size a.lines.now a.from (omega (arith, c.requires.inside)) (omega (arith, c.requires.inside)) in
    let first = c.text.ensures in
    omega (arith, size, c.requires.room, first.place, first.size, field_length (drop a.from a.lines.now))

pub text-requires-2 : goal.text-requires-2
text-requires-2 c =
    let a = c.args in
    let size = line-size a.lines.now a.from (omega (arith, c.requires.inside)) (omega (arith, c.requires.inside)) in
    let first = c.text.ensures in
    let path = c.write_field-path_end.ensures.written in
    omega (arith, size, c.requires.room, first.place, first.size, path.place, path.size, field_length (drop a.from a.lines.now))

pub write_field-name_end-requires-clause-room : goal.write_field-name_end-requires-clause-room
write_field-name_end-requires-clause-room c =
    let a = c.args in
    let size = line-size a.lines.now a.from (omega (arith, c.requires.inside)) (omega (arith, c.requires.inside)) in
    let first = c.text.ensures in
    let path = c.write_field-path_end.ensures.written in
    let space = c.text-2.ensures in
    let there = ap (λ n. bytes_before tab (drop (n + 1) a.lines.now)) c.write_field-path_end.ensures.tab in
    omega (
      arith,
      size,
      c.requires.room,
      first.place,
      first.size,
      path.place,
      path.size,
      space.place,
      space.size,
      there,
      field_length (drop a.from a.lines.now),
      field_length (drop (c.write_field-path_end.result + 1) a.lines.now),
    )

pub text-requires-3 : goal.text-requires-3
text-requires-3 c =
    let a = c.args in
    let size = line-size a.lines.now a.from (omega (arith, c.requires.inside)) (omega (arith, c.requires.inside)) in
    let first = c.text.ensures in
    let path = c.write_field-path_end.ensures.written in
    let space = c.text-2.ensures in
    let name = c.write_field-name_end.ensures.written in
    let there = ap (λ n. bytes_before tab (drop (n + 1) a.lines.now)) c.write_field-path_end.ensures.tab in
    omega (
      arith,
      size,
      c.requires.room,
      first.place,
      first.size,
      path.place,
      path.size,
      space.place,
      space.size,
      name.place,
      name.size,
      there,
      field_length (drop a.from a.lines.now),
      field_length (drop (c.write_field-path_end.result + 1) a.lines.now),
    )

pub returns-clause-written : goal.returns-clause-written
returns-clause-written c =
    let a = c.args in
    let line = key-line a.lines.now a.from (omega (arith, c.requires.inside)) (omega (arith, c.requires.inside)) in
    let name = subst (λ n. Writes (first_field (drop (n + 1) a.lines.now)) c.text-2.new.self c.write_field-name_end.new.w) c.write_field-path_end.ensures.tab c.write_field-name_end.ensures.written in
    subst (λ l. Writes l a.w.now c.text-3.new.self) line
    (writes_then c.text.ensures (writes_then c.write_field-path_end.ensures.written (writes_then c.text-2.ensures (writes_then name c.text-3.ensures))))
