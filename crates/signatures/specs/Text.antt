-- The text whose brackets are noted.
use Rattle.std.specs.Prelude.{ℕ, List}
use Rattle.signatures.specs.declared.Notes.{Notes}

abbrev pub text_of : Notes → List ℕ
text_of n = n.lists.text.now
