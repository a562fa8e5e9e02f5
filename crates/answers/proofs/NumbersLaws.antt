-- A refusal's number is at least 1 and at most 9.
use Rattle.std.specs.Prelude.{◌≤◌}
use Rattle.std.proofs.Common.{arith}
use Rattle.answers.specs.Numbers.{number_of}
use Rattle.answers.specs.declared.Refusal.{Refusal}
use Rattle.answers.specs.declared.Refusal.TheVariants.{Length, Layout, Path, Text, Work, Sums, Baseline, Functions, Output}

pub number_least : (r : Refusal) → 1 ≤ number_of r
number_least Length = omega arith
number_least Layout = omega arith
number_least Path = omega arith
number_least Text = omega arith
number_least Work = omega arith
number_least Sums = omega arith
number_least Baseline = omega arith
number_least Functions = omega arith
number_least Output = omega arith
