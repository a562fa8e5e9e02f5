-- The first 8,191 places, with one put in among them, are at most 8,192.
use Rattle.std.proofs.Common.{◌≡◌, ◌+◌, ◌++◌, ◌-◌, ◌≤◌, ◌∷◌, [], ap, arith, length, length-take, refl, sym, take, ◌∙◌}
use Rattle.sorted_keys.proofs.Inserting.{insert-end, moved, moved-length, refill-all, with_part}
use Rattle.sorted_keys.specs.Held.{insert-first}
use Rattle.sorted_keys.specs.Insert.{insert_at}
use Rattle.sorted_keys.proofs.put_in.Goals as goal

pub returns : goal.returns
returns c =
    let a = c.args in
    let old = c.truncate.new.self.items in
    let xs = c.deref_mut.result.now in
    let n = length xs - a.at in
    let ws = c.carry-last.new.cells in
    let last = c.carry-last.result in
    let new = with_part a.at n xs ws in
    let first : xs ≡ take 8191 a.places.now.items = c.deref_mut.ensures.value ∙ c.truncate.ensures.items in
    let few = length-take 8191 a.places.now.items in
    let fits : a.at + n ≤ length xs = omega (arith, c.requires, ap length first, few) in
    let size : length new ≡ length xs = moved-length a.at n xs ws a.place last fits c.carry-last.ensures in
    let end : a.at + n ≡ length new = omega (arith, c.requires, size, ap length first, few) in
    let whole = refill-all (length old) old new refl (size ∙ ap length c.deref_mut.ensures.value) in
    c.push.ensures.items ∙ ap (λ ys. ys ++ last ∷ []) whole ∙ sym (insert-end (a.at + n) last new end) ∙ moved a.at n xs ws a.place last fits c.carry-last.ensures
    ∙ ap (insert_at a.at a.place) first ∙ sym (insert-first a.at 8191 a.place a.places.now.items (omega (arith, c.requires)))
