-- The bytes of a text of which something was learnt.
use Rattle.std.specs.Prelude.{ℕ, List}
use Rattle.source.specs.declared.text.Text.{Text}

abbrev pub bytes_of : Text → List ℕ
bytes_of t = t.braces.text.now
