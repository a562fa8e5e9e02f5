-- Behind the last brace of either kind no name is a function's.
use Prim.Native.Nat.{ℕ, ◌≤◌}
use Rattle.std.specs.Prelude.{◌≡◌}
use Rattle.std.proofs.Common.{arith, inl, inr}
use Rattle.std.proofs.Math.Option.{none}
use Rattle.source_rules.specs.Finding.{function_from}
use Rattle.search.specs.declared.braces.Braces.{Braces}
use Rattle.source.specs.Steps.{behind_braces}

pub behind_opening : (from x to : ℕ) (b : Braces) → b.last_opening ≤ to → to ≤ x → function_from from x b.text.now ≡ none
behind_opening from x to b h k = behind_braces b.text.now b.last_opening from x (inl b.no_opening) (omega arith)

pub behind_closing : (from x to : ℕ) (b : Braces) → b.last_closing ≤ to → to ≤ x → function_from from x b.text.now ≡ none
behind_closing from x to b h k = behind_braces b.text.now b.last_closing from x (inr b.no_closing) (omega arith)
