-- A line that goes on behind a plain key: plain, with the path of that key, and a key behind it. Whether a function has that path is not told here.
use Rattle.std.specs.Prelude.{ℕ, Option, Some, None, ◌+◌, ◌<◌, ◌≡◌, ◌≢◌, true, List, length, get_or}
use Rattle.text_rules.specs.Classes.{tab}
use Rattle.text_rules.specs.Search.{part}
use Rattle.baseline.specs.Plain.{PlainLine, ReadPlain}
use Rattle.baseline.specs.declared.Bounds.{Bounds}
use Rattle.prefix.specs.Common.{common}
use Rattle.key_lines.specs.declared.key.Key.{Key}

-- behind the bytes that it has in common with a key, a line goes on with a greater byte, or the key has ended and the line goes on without a tab
abbrev pub Behind : (s key : List ℕ) → (from shared : ℕ) → Type 0
Behind s k from shared =
    (from + shared < length s)
    × (shared ≡ length k → get_or s (from + shared) 0 ≢ tab)
    × (shared < length k → get_or k shared 0 < get_or s (from + shared) 0)

-- a plain line with the path of a plain key, and a key behind it
pub record Follows (s : List ℕ) (key : Key) (from : ℕ) (l : Bounds) : Type 0 where
  pub line : PlainLine s from l.path l.name l.end
  pub plain : key.plain ≡ true
  pub shared : ℕ
  pub shared-is : shared ≡ common key.bytes.now (part from (length s) s)
  pub same-path : key.path < shared
  pub behind : Behind s key.bytes.now from shared

-- the line that was read, if one was
abbrev pub ReadOn : List ℕ → Key → (from : ℕ) → Option Bounds → Type 0
ReadOn s key from (Some l) = Follows s key from l
ReadOn s key from None = Unit {0}

pub next-read : (s : List ℕ) (key : Key) (from c : ℕ) (r : Option Bounds) → ReadPlain s from r → key.plain ≡ true → c ≡ common key.bytes.now (part from (length s) s)
    → key.path < c → Behind s key.bytes.now from c → ReadOn s key from r
next-read s key from c (Some l) p f e h b = record { line = p; plain = f; shared = c; shared-is = e; same-path = h; behind = b }
next-read s key from c None p f e h b = tt
