-- Unicode White_Space at both ends of a text.
-- The characters with the property White_Space: U+9 to U+D, U+20, U+85, U+A0, U+1680, U+2000 to U+200A, U+2028, U+2029, U+202F, U+205F, U+3000.
use Rattle.std.specs.Prelude.{ℕ, zero, suc, Bool, ◌&&◌, ◌||◌, List, [], ◌∷◌, eqb, get_or}
use Rattle.text_rules.specs.Bytes.{if◌then◌otherwise◌}
use Rattle.text_rules.specs.Classes.{space}
use Rattle.text_rules.specs.Search.{opens, part}
use Rattle.text_rules.specs.Utf8.{◌to◌, within}

-- the third byte, after E2 80, of a character of White_Space: U+2000 to U+200A, U+2028, U+2029, U+202F
unfoldable pub is_wide_space : ℕ → Bool
is_wide_space b = within b (0x80 to 0x8A) || eqb b 0xA8 || eqb b 0xA9 || eqb b 0xAF

-- the length in bytes of the character at the head, if it is of White_Space, and else 0
unfoldable pub white_length : List ℕ → ℕ
white_length s =
    if within (get_or s 0 0) (9 to 13) || eqb (get_or s 0 0) space then 1 otherwise  -- U+9 to U+D, U+20
    if opens 0xC2 0x85 s || opens 0xC2 0xA0 s then 2 otherwise  -- U+85, U+A0
    if opens 0xE1 0x9A s && eqb (get_or s 2 0) 0x80 then 3 otherwise  -- U+1680
    if opens 0xE2 0x80 s && is_wide_space (get_or s 2 0) then 3 otherwise
    if opens 0xE2 0x81 s && eqb (get_or s 2 0) 0x9F then 3 otherwise  -- U+205F
    if opens 0xE3 0x80 s && eqb (get_or s 2 0) 0x80 then 3 otherwise  -- U+3000
    0

-- the place of the first byte that is not of white space; the `skip_left` bytes from here on belong to a character that is
unfoldable pub white_end : (at skip_left : ℕ) → List ℕ → ℕ
white_end at skip_left [] = at
white_end at (suc skip_left) (b ∷ s) = white_end (suc at) skip_left s
white_end at zero (b ∷ s) = elim (white_length (b ∷ s)) [ zero ↦ at | suc m ↦ white_end (suc at) m s ]

-- the place behind the last byte that is not of white space; `end` is that place so far
unfoldable pub text_end : (end at skip_left : ℕ) → List ℕ → ℕ
text_end end at skip_left [] = end
text_end end at (suc skip_left) (b ∷ s) = text_end end (suc at) skip_left s
text_end end at zero (b ∷ s) = elim (white_length (b ∷ s)) [ zero ↦ text_end (suc at) (suc at) 0 s | suc m ↦ text_end end (suc at) m s ]

-- the text without the white space at its two ends
unfoldable pub trimmed : List ℕ → List ℕ
trimmed s = part (white_end 0 0 s) (text_end 0 0 0 s) s
