-- The key in front of the place stands before the other one, and the key at the place does not.
use Rattle.std.proofs.Common.{ℕ, ◌+◌, ◌<◌, ◌≤◌, ◌≡◌, [], true, false, arith, get_or, length, rules}
use Rattle.text_rules.specs.Bytes.{before}
use Rattle.sorted_keys.proofs.Inserting.{place_is}
use Rattle.sorted_keys.proofs.Keys.place_of.Goals as goal

pub returns-clause-place : goal.returns-clause-place
returns-clause-place c =
    let b = c.args.bytes.now in
    let ks = c.args.self.now.keys in
    let few : c.boundary.result ≤ length ks = omega (arith, c.len.ensures.count, c.boundary.ensures.inside) in
    let ahead : (i : ℕ) → i + 1 ≡ c.boundary.result → before (get_or ks i []) b ≡ true = λ i q. let h = c.boundary.ensures.before i q in search rules in
    let here : c.boundary.result < length ks → before (get_or ks c.boundary.result []) b ≡ false = λ q. let h = c.boundary.ensures.here (omega (arith, q, c.len.ensures.count)) in search rules in
    place_is ks c.len.ensures.rising b c.boundary.result few ahead here
