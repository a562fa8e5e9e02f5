-- The next tab stays the same from byte to byte, and the rest of the field, put behind what is written, makes the whole.
use Rattle.std.proofs.Common.{◌≡◌, ◌+◌, ◌-◌, length, drop}
use Rattle.text_rules.specs.Bytes.{put_at}
use Rattle.text_rules.specs.Classes.{tab}
use Rattle.text_rules.specs.Search.{bytes_before}
use Rattle.listed_keys.specs.Plain.{first_field, tab_from}
use Rattle.listed_keys.proofs.write_field.Given as goal

abbrev pub invariant-loop-place : goal.invariant-loop-place
invariant-loop-place l =
    let w = l.initial.w in
    (tab_from l.lines l.place ≡ tab_from l.lines l.from)
    × (l.w.out.ghost_name ≡ w.out.ghost_name)
    × (length l.w.out.now ≡ length w.out.now)
    × (l.at + bytes_before tab (drop l.place l.lines) ≡ w.at + bytes_before tab (drop l.from l.lines))
    × (put_at l.at (first_field (drop l.place l.lines)) l.w.out.now ≡ put_at w.at (first_field (drop l.from l.lines)) w.out.now)

abbrev pub decreases-loop-place : goal.decreases-loop-place
decreases-loop-place l = length l.lines - l.place
