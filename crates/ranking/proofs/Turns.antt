-- One function after another is taken: the node 1 holds the next one, and with its leaf emptied and its path played the tournament holds the others.
use Rattle.std.specs.Prelude.{ℕ, ◌+◌, ◌*◌, ◌/◌, ◌≤◌, ◌<◌, ◌≡◌, ◌≢◌, List, [], ◌∷◌, length, get_or, refl}
use Rattle.std.proofs.Common.{Bool, true, inl, inr, ap, subst, sym, ◌∙◌, arith, set}
use Rattle.text_rules.specs.ByteOrder.{Orders}
use Rattle.text_rules.specs.Bytes.{kept}
use Rattle.text_rules.specs.BytesLaws.{kept-total, total-same}
use Rattle.text_rules.specs.Order.{sort}
use Rattle.text_rules.specs.Selection.{ahead, placed_from}
use Rattle.text_rules.proofs.OrderLaws.{sort-total}
use Rattle.gate_rules.specs.Functions.{Fun, over}
use Rattle.gate_rules.specs.Functions as rules
use Rattle.gate_rules.specs.Gate.{gate}
use Rattle.gate_rules.specs.Scan.{functions_of}
use Rattle.order.specs.Best.{After, Best}
use Rattle.order.specs.Chosen.{Chosen, choice, chosen_none, left, left-all, left_end, left-next, taken_next, taken_none}
use Rattle.order.specs.Tournament.{same_or_not, entered_all, entered_small, leaves-same, path-whole, played_set, played_up, root-chosen, root-taken}
use Rattle.functions.specs.Shown.{limits_of, no_fun}
use Rattle.ranking.specs.Ranks.{Entered, LastTaken, Next, PlayedBut, Settled, listed, to_take}
use Rattle.ranking.specs.Taking.{Taking, all_of, standing}
use Rattle.ranking.specs.declared.Tournament.{Tournament}
use Rattle.functions.specs.declared.Limits.{Limits}
use Rattle.ranking.specs.declared.Ranking.TheInside.{Inside}

empty : (fs : List Fun) → length fs ≡ 0 → fs ≡ []
empty [] e = refl
empty (f ∷ fs) e = absurd (omega arith)

-- at most all functions are listed
listed-most : (less : Fun → Fun → Bool) (orders : Orders less) (L : rules.Limits) (fs : List Fun) → length (listed less orders L fs) ≤ length fs
listed-most less orders L fs =
    let sorted = ap length (left-all less orders no_fun fs (over L)) in
    omega (
      arith,
      sorted,
      total-same 1 fs,
      total-same 1 (kept (over L) fs),
      total-same 1 (sort less (kept (over L) fs)),
      sort-total less (λ f. 1) (kept (over L) fs),
      kept-total (over L) (λ f. 1) fs,
    )

-- none is taken yet
module _ {R : Type 0} (less : Fun → Fun → Bool) (orders : Orders less) (T : Tournament R) (l : Limits) (ns : List ℕ) (entered : Entered (limits_of l) T.functions.tree.now T.functions.count ns) where
  all : Entered (limits_of l) T.functions.tree.now (length (functions_of gate T.functions.tree.now)) ns
  all = subst (λ m. Entered (limits_of l) T.functions.tree.now m ns) T.functions.all entered

  pub leaves_small : (j : ℕ) → T.functions.count ≤ j → j < 2 * T.functions.count → get_or ns j 0 ≤ T.functions.count
  leaves_small j a b =
      let n = T.functions.all in
      let h = entered_small no_fun (functions_of gate T.functions.tree.now) (over (limits_of l)) ns all j (omega arith) (omega arith) in
      omega arith

  pub taking_none : (new : List ℕ) → Settled less orders T.functions.tree.now new → ((j : ℕ) → T.functions.count ≤ j → get_or new j 0 ≡ get_or ns j 0) → Taking less orders record { tournament = T; limits = l; nodes = new; taken = 0 }
  taking_none new settled same =
      let test = over (limits_of l) in
      let n = T.functions.all in
      record {
        last = T.functions.count;
        taken_last = taken_none less orders no_fun (functions_of gate T.functions.tree.now) test T.functions.count n;
        settled = settled;
        ranked =
            leaves-same less orders no_fun (functions_of gate T.functions.tree.now) test T.functions.count ns new (λ j h. same j (omega arith))
            (entered_all less orders no_fun (functions_of gate T.functions.tree.now) test T.functions.count ns n all);
        few = omega (arith, listed-most less orders (limits_of l) (functions_of gate T.functions.tree.now));
      }

-- what the node 1 holds is taken
module _ {R : Type 0} (less : Fun → Fun → Bool) (orders : Orders less) (r : Inside R) (t : Taking less orders r) where
  abbrev first : ℕ
  first = get_or r.nodes 1 0

  chosen : 1 ≤ length (all_of r) → Chosen less orders no_fun (all_of r) (over (limits_of r.limits)) t.last (placed_from 0 (all_of r)) first
  chosen some = root-chosen less orders no_fun (all_of r) (over (limits_of r.limits)) t.last r.nodes t.settled t.ranked some

  -- the last one that was taken is one alone
  same_last : (last next : ℕ) → LastTaken less orders (standing r) last → Chosen less orders no_fun (all_of r) (over (limits_of r.limits)) t.last (placed_from 0 (all_of r)) next
      → Chosen less orders no_fun (all_of r) (over (limits_of r.limits)) last (placed_from 0 (all_of r)) next
  same_last last next k c =
      subst
      (λ o. Best (ahead less orders) (λ z. (over (limits_of r.limits) z.what ≡ true) × After (ahead less orders) o z) (placed_from 0 (all_of r)) (choice less orders no_fun (all_of r) next))
      (t.taken_last ∙ sym k) c

  chosen_end : r.tournament.functions.count ≤ first → Chosen less orders no_fun (all_of r) (over (limits_of r.limits)) t.last (placed_from 0 (all_of r)) (length (all_of r))
  unfolding placed_from
  chosen_end h =
      let test = over (limits_of r.limits) in
      elim (same_or_not (length (all_of r)) 0) [
        | inl e ↦
            subst (λ fs. Chosen less orders no_fun fs test t.last (placed_from 0 fs) (length fs)) (sym (empty (all_of r) e))
            (chosen_none less orders no_fun [] test t.last 0 refl)
        | inr e ↦
            let n = r.tournament.functions.all in
            let some : 1 ≤ length (all_of r) = omega (arith, e) in
            let small = t.settled.small 1 (omega arith) (omega arith) in
            let same : first ≡ length (all_of r) = omega arith in
            subst (Chosen less orders no_fun (all_of r) test t.last (placed_from 0 (all_of r))) same (chosen some)
      ]

  -- no number is left
  pub number_none : r.tournament.functions.count ≤ first → Next less orders (standing r) (length (all_of r)) (standing r)
  number_none h =
      record {
        within = omega arith;
        all-is = refl;
        limits-is = refl;
        chosen = λ last k. same_last last (length (all_of r)) k (chosen_end h);
        ranked = λ n. absurd (n refl);
      }

  pub none_left : r.tournament.functions.count ≤ first → to_take less orders (standing r) ≡ []
  none_left h =
      elim (same_or_not (length (all_of r)) 0) [
        | inl e ↦ empty (to_take less orders (standing r)) (let few = t.few in omega arith)
        | inr e ↦
            let n = r.tournament.functions.all in
            let some : 1 ≤ length (all_of r) = omega (arith, e) in
            let small = t.settled.small 1 (omega arith) (omega arith) in
            left_end less orders no_fun (all_of r) (over (limits_of r.limits)) r.taken t.last first t.taken_last (chosen some) (omega arith)
      ]

  module _ (h : first < r.tournament.functions.count) where
    there : first ≢ length (all_of r)
    there q = let n = r.tournament.functions.all in omega arith

    some : 1 ≤ length (all_of r)
    some = let n = r.tournament.functions.all in omega arith

    pub path_due : PlayedBut less orders r.tournament.functions.tree.now ((r.tournament.functions.count + first) / 2) (set r.nodes (r.tournament.functions.count + first) r.tournament.functions.count)
    path_due =
        let n = r.tournament.functions.all in
        let leaf = r.tournament.functions.count + first in
        let room = t.settled.room in
        played_up less orders no_fun (all_of r) leaf r.nodes (set r.nodes leaf r.tournament.functions.count)
        (played_set less orders no_fun (all_of r) leaf r.tournament.functions.count r.nodes (omega arith) (omega arith) (omega arith) (λ l. absurd (omega arith)))
        (path-whole less orders no_fun (all_of r) leaf r.nodes t.settled)

    pub take_next : to_take less orders (standing r) ≡ get_or (all_of r) first no_fun ∷ left less orders no_fun (all_of r) (over (limits_of r.limits)) (r.taken + 1)
    take_next =
        left-next less orders no_fun (all_of r) (over (limits_of r.limits)) r.taken t.last first t.taken_last (chosen some) there

    pub taking_next : (ns : List ℕ) → Settled less orders r.tournament.functions.tree.now ns
        → ((j : ℕ) → r.tournament.functions.count ≤ j → get_or ns j 0 ≡ get_or (set r.nodes (r.tournament.functions.count + first) r.tournament.functions.count) j 0)
        → Taking less orders record r { nodes = ns; taken = r.taken + 1 }
    taking_next ns settled same =
        let test = over (limits_of r.limits) in
        let n = r.tournament.functions.all in
        record {
          last = first;
          taken_last = taken_next less orders no_fun (all_of r) test r.taken t.last first t.taken_last (chosen some) there;
          settled = settled;
          ranked =
              root-taken less orders no_fun (all_of r) test t.last r.nodes t.settled t.ranked some there (r.tournament.functions.count + first) r.tournament.functions.count (omega arith) n ns
              (λ j h. same j (omega arith));
          few = omega (arith, t.few, ap length take_next);
        }

    pub number_next : (ns : List ℕ) → Next less orders (standing r) first (standing record r { nodes = ns; taken = r.taken + 1 })
    number_next ns =
        let n = r.tournament.functions.all in
        record {
          within = omega arith;
          all-is = refl;
          limits-is = refl;
          chosen = λ last k. same_last last first k (chosen some);
          ranked = λ q. taken_next less orders no_fun (all_of r) (over (limits_of r.limits)) r.taken t.last first t.taken_last (chosen some) there;
        }
