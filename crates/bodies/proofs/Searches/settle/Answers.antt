-- `bodies::Searches::settle` meets its contract: each turn takes the first off the level's chain. It is behind the boundary, and those that are left
-- in the chain are before it.
use Rattle.std.proofs.Common.{ℕ, suc, ◌-◌, ◌≡◌, get_or, sym, ◌∙◌, arith, get_or-set_same}
use Rattle.bodies.specs.Chain.{popped-fits}
use Rattle.bodies.specs.Settling.{settling_more}
use Rattle.bodies.proofs.Searches.settle.Goals as goal

pub loop-head-preserved : goal.loop-head-preserved
loop-head-preserved c =
    let v = c.loop-head.invariant in
    let x = c.loop-head.self in
    let a = c.args in
    let t = c.loop-head-test.true in
    let j : ℕ = c.loop-head.head - 1 in
    let first : get_or x.heads a.level 0 ≡ suc j = omega (arith, v.first, t) in
    let next = c.from-head-in-loop-head.ensures in
    let left = c.saturating_sub-self.ensures in record {
      most = omega (arith, next, v.fewer.fit.links_fall j, v.most);
      first = next ∙ sym (get_or-set_same x.heads a.level _ 0 (omega (arith, c.requires.kept, v.fewer.fit.heads_room)));
      fewer = record {
        fit = popped-fits x.told x.links x.heads a.level j a.told v.fewer.fit first c.requires.kept;
        pending = omega (arith, left, v.fewer.pending);
        low = v.fewer.low;
        high = v.fewer.high;
      };
      links = v.links;
      settling = λ at h. settling_more at _ a.told a.self.now.told x.told x.links x.heads a.level j v.fewer.fit (v.settling at h) first c.requires.kept c.requires.over
          (((v.settling at h).chain.heads_is a.level j first).1, omega (arith, t));
    }
