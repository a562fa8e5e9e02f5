-- Behind 8,192 others a key has no place, one that stands there already changes nothing, and any other is put in at its place.
use Rattle.std.proofs.Common.{◌+◌, ◌≡◌, ap, arith, length, subst, sym, ◌∙◌}
use Rattle.text_rules.specs.Search.{part}
use Rattle.sorted_keys.proofs.Inserting.{added, behind-all, few-keys, held_now, keys_now, places-behind, places-put, places-there, there}
use Rattle.sorted_keys.proofs.Keys.insert.Goals as goal

pub returns-then-at-eq-MOST-clause-keys : goal.returns-then-at-eq-MOST-clause-keys
returns-then-at-eq-MOST-clause-keys c =
    let k = c.self.inside in
    let ks = c.args.self.now.keys in
    let few = few-keys k.baseline.lines.now k.places.items c.self.invariant ks (ap (λ v. v.keys) c.self.view_is) in
    behind-all ks few c.args.key.now c.place_of-at.result c.place_of-at.ensures.place c.place_of-at.ensures.few c.if-at-eq-MOST.true

pub returns-then-at-eq-MOST-clause-places : goal.returns-then-at-eq-MOST-clause-places
returns-then-at-eq-MOST-clause-places c = places-behind _ _ _ c.place_of-at.ensures.place _ _ c.if-at-eq-MOST.true

pub returns-then-stands_at-clause-keys : goal.returns-then-stands_at-clause-keys
returns-then-stands_at-clause-keys c =
    let k = c.self.inside in
    let ks = c.args.self.now.keys in
    let few = few-keys k.baseline.lines.now k.places.items c.self.invariant ks (ap (λ v. v.keys) c.self.view_is) in
    there ks few c.args.key.now c.place_of-at.result c.place_of-at.ensures.place c.place_of-at.ensures.few (sym c.stands_at.ensures ∙ c.if-stands_at.true)

pub returns-then-stands_at-clause-places : goal.returns-then-stands_at-clause-places
returns-then-stands_at-clause-places c = places-there _ _ _ c.place_of-at.ensures.place _ _ (sym c.stands_at.ensures ∙ c.if-stands_at.true)

pub invariant_of-self : goal.invariant_of-self
invariant_of-self c =
    let k = c.self.inside in
    let s = k.baseline.lines.now in
    let key = c.args.key.now in
    let from = c.args.from in
    let ks = c.args.self.now.keys in
    let seen = ap (λ v. v.keys) c.self.view_is in
    let lines = ap (λ v. v.lines) c.self.view_is in
    let few = few-keys s k.places.items c.self.invariant ks seen in
    let one = added ks few key c.place_of-at.result c.place_of-at.ensures.place c.place_of-at.ensures.few (sym c.stands_at.ensures ∙ c.if-stands_at.false) in
    held_now s k.places.items c.put_in.new.places.items c.self.invariant ks seen key c.place_of-at.result (record { from = from; to = from + length key }) c.put_in.ensures
    (subst (λ t. part from (from + length key) t ≡ key) (sym lines) c.requires.stands) one (omega arith, omega (arith, ap length lines, c.requires.inside))

pub returns-clause-keys : goal.returns-clause-keys
returns-clause-keys c =
    let k = c.self.inside in
    let s = k.baseline.lines.now in
    let key = c.args.key.now in
    let from = c.args.from in
    let ks = c.args.self.now.keys in
    let seen = ap (λ v. v.keys) c.self.view_is in
    let lines = ap (λ v. v.lines) c.self.view_is in
    let few = few-keys s k.places.items c.self.invariant ks seen in
    let one = added ks few key c.place_of-at.result c.place_of-at.ensures.place c.place_of-at.ensures.few (sym c.stands_at.ensures ∙ c.if-stands_at.false) in
    keys_now s k.places.items c.put_in.new.places.items c.self.invariant ks seen key c.place_of-at.result (record { from = from; to = from + length key }) c.put_in.ensures
    (subst (λ t. part from (from + length key) t ≡ key) (sym lines) c.requires.stands) one

pub returns-clause-places : goal.returns-clause-places
returns-clause-places c =
    let seen = ap (λ v. v.places) c.self.view_is in
    rw (c.put_in.ensures, seen) (places-put _ _ _ c.place_of-at.ensures.place _ _ c.if-at-eq-MOST.false (sym c.stands_at.ensures ∙ c.if-stands_at.false))
