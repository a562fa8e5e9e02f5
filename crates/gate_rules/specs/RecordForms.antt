-- Records written one after another, as a loop over the functions needs it: each at its place while there is room, and none beyond.
use Rattle.std.specs.Prelude.{ℕ, suc, ◌*◌, ◌≡◌, List, [], ◌∷◌, ltb, length}
use Rattle.text_rules.specs.Bytes.{if◌then◌otherwise◌, put_at}
use Rattle.text_rules.specs.Sizes.{record_width}
use Rattle.gate_rules.specs.Calls.{room}

-- the record with a number, put at its place, if there is room for it
unfoldable pub put_record : (number : ℕ) → List ℕ → List ℕ → List ℕ
put_record number bytes buffer = if ltb number (room buffer) then put_at (record_width * number) bytes buffer otherwise buffer

-- records one after another, the first with the number
unfoldable pub put_records : (number : ℕ) → List (List ℕ) → List ℕ → List ℕ
put_records number [] buffer = buffer
put_records number (r ∷ rs) buffer = put_records (suc number) rs (put_record number r buffer)

-- a record is as wide as the table says
abbrev pub Wide : List ℕ → Type 0
Wide r = length r ≡ record_width
