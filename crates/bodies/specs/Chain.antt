-- Searches that are pending, in chains. Each has a level; those of one level form a chain,
-- the last one first. An index in a chain is told by one more than itself, so that 0 is the end of the chain.
use Rattle.std.specs.Prelude.{ℕ, zero, suc, ◌+◌, ◌≤◌, ◌<◌, ◌≡◌, refl, ◌≢◌, List, length, get_or, set}
use Rattle.std.proofs.Common.{ap, subst, sym, ◌∙◌, inl, inr, arith, length-set, get_or-set_other, get_or-set_same}
use Rattle.angles.specs.Angles.{same_or_not}
use Rattle.bodies.specs.declared.Searches.{Searches}
use Rattle.bodies.specs.declared.Sought.{Sought}
use Rattle.bodies.specs.declared.Sought.TheVariants.{Ongoing, Unknown}

abbrev pub Pending : List Sought → ℕ → Type 0
Pending m i = get_or m i Unknown ≡ Ongoing

-- the lists are long enough, and a chain goes on to smaller indices only
pub record Fits (m : List Sought) (links heads : List ℕ) : Type 0 where
  pub room : length m ≡ 2048
  pub links_room : length links ≡ 2048
  pub heads_room : length heads ≡ 4097
  pub heads_most : (k : ℕ) → get_or heads k 0 ≤ 2048
  pub links_fall : (j : ℕ) → get_or links j 0 ≤ j

-- the chain of each level holds what is pending there: its first is the last one, and what follows one is the last before it
pub record Chain (level : ℕ → ℕ) (m : List Sought) (links heads : List ℕ) : Type 0 where
  pub inside : (i : ℕ) → Pending m i → level i ≤ 4096
  pub heads_last : (i : ℕ) → Pending m i → i < get_or heads (level i) 0
  pub heads_is : (k j : ℕ) → get_or heads k 0 ≡ suc j → Pending m j × (level j ≡ k)
  pub links_last : (i j : ℕ) → Pending m i → Pending m j → i < j → level i ≡ level j → i < get_or links j 0
  pub links_is : (j k : ℕ) → Pending m j → get_or links j 0 ≡ suc k → Pending m k × (level k ≡ level j)

-- the same of the searches as a struct holds them
abbrev pub FitIn : Searches → Type 0
FitIn x = Fits x.told x.links x.heads

abbrev pub Chained : (ℕ → ℕ) → Searches → Type 0
Chained level x = Chain level x.told x.links x.heads

-- what is told of one search is set
module _ (m : List Sought) (j : ℕ) (v : Sought) where
  pub set_there : j < length m → get_or (set m j v) j Unknown ≡ v
  set_there h = get_or-set_same m j v Unknown h

  pub set-elsewhere : (i : ℕ) → i ≢ j → get_or (set m j v) i Unknown ≡ get_or m i Unknown
  set-elsewhere i n = get_or-set_other m j i v Unknown n

  -- what is still pending where something else is told
  pub still-pending : j < length m → v ≢ Ongoing → (i : ℕ) → Pending (set m j v) i → Pending m i × (i ≢ j)
  still-pending h n i p =
      elim (same_or_not i j) [
        | inl e ↦ absurd (n (sym (set_there h) ∙ subst (λ k. get_or (set m j v) k Unknown ≡ Ongoing) e p))
        | inr e ↦ (sym (set-elsewhere i e) ∙ p, e)
      ]

-- the first of a chain is taken off it
module _ (m : List Sought) (links heads : List ℕ) (k j : ℕ) (v : Sought) (f : Fits m links heads) (first : get_or heads k 0 ≡ suc j) (small : k ≤ 4096) where
  pub first_small : j < 2048
  first_small = omega (arith, first, f.heads_most k)

  abbrev rest : List ℕ
  rest = set heads k (get_or links j 0)

  rest-there : get_or rest k 0 ≡ get_or links j 0
  rest-there = get_or-set_same heads k (get_or links j 0) 0 (omega (arith, small, f.heads_room))

  rest-elsewhere : (l : ℕ) → l ≢ k → get_or rest l 0 ≡ get_or heads l 0
  rest-elsewhere l n = get_or-set_other heads k l (get_or links j 0) 0 n

  pub popped-fits : Fits (set m j v) links (set heads k (get_or links j 0))
  popped-fits =
      record {
        room = length-set m j v ∙ f.room;
        links_room = f.links_room;
        heads_room = length-set heads k (get_or links j 0) ∙ f.heads_room;
        heads_most =
            λ l. elim (same_or_not l k) [
              | inl e ↦ (let h = ap (λ x. get_or rest x 0) e in omega (arith, h, rest-there, f.links_fall j, first_small))
              | inr e ↦ omega (arith, rest-elsewhere l e, f.heads_most l)
            ];
        links_fall = f.links_fall;
      }

module _ (level : ℕ → ℕ) (m : List Sought) (links heads : List ℕ) (k j : ℕ) (v : Sought) (f : Fits m links heads) (c : Chain level m links heads) (first : get_or heads k 0 ≡ suc j) (small : k ≤ 4096) (other : v ≢ Ongoing) where
  still : (i : ℕ) → Pending (set m j v) i → Pending m i × (i ≢ j)
  still = still-pending m j v (omega (arith, first_small m links heads k j v f first small, f.room)) other

  keeps : (i : ℕ) → i ≢ j → Pending m i → Pending (set m j v) i
  keeps i n p = set-elsewhere m j v i n ∙ p

  abbrev others : List ℕ
  others = set heads k (get_or links j 0)

  others-there : get_or others k 0 ≡ get_or links j 0
  others-there = rest-there m links heads k j v f first small

  others-elsewhere : (l : ℕ) → l ≢ k → get_or others l 0 ≡ get_or heads l 0
  others-elsewhere = rest-elsewhere m links heads k j v f first small

  pub popped : Chain level (set m j v) links (set heads k (get_or links j 0))
  popped =
      record {
        inside = λ i p. c.inside i (still i p).0;
        heads_last = last;
        heads_is = is;
        links_last = λ a b p q h e. c.links_last a b (still a p).0 (still b q).0 h e;
        links_is = linked;
      } where
        at_level : level j ≡ k
        at_level = (c.heads_is k j first).1

        last : (i : ℕ) → Pending (set m j v) i → i < get_or others (level i) 0
        last i p =
            elim (same_or_not (level i) k) [
              | inl e ↦
                  (let q = still i p in
                  let a : i < get_or heads k 0 = subst (λ l. i < get_or heads l 0) e (c.heads_last i q.0) in
                  let b : i < j = omega (arith, a, first, q.1) in
                  let h = c.links_last i j q.0 (c.heads_is k j first).0 b (e ∙ sym at_level) in
                  subst (λ l. i < get_or others l 0) (sym e) (omega (arith, h, others-there)))
              | inr e ↦ omega (arith, others-elsewhere (level i) e, c.heads_last i (still i p).0)
            ]

        is : (l i : ℕ) → get_or others l 0 ≡ suc i → Pending (set m j v) i × (level i ≡ l)
        is l i h =
            elim (same_or_not l k) [
              | inl e ↦
                  (let g : get_or links j 0 ≡ suc i = sym others-there ∙ subst (λ x. get_or others x 0 ≡ suc i) e h in
                  let q = c.links_is j i (c.heads_is k j first).0 g in
                  (keeps i (λ z. omega (arith, z, g, f.links_fall j)) q.0, q.1 ∙ at_level ∙ sym e))
              | inr e ↦
                  (let q = c.heads_is l i (sym (others-elsewhere l e) ∙ h) in
                  (keeps i (λ z. e (sym q.1 ∙ ap level z ∙ at_level)) q.0, q.1))
            ]

        linked : (a b : ℕ) → Pending (set m j v) a → get_or links a 0 ≡ suc b → Pending (set m j v) b × (level b ≡ level a)
        linked a b p h =
            let q = still a p in
            let l = c.links_is a b q.0 h in (
              keeps b (λ z.
                  (let e : level a ≡ k = sym l.1 ∙ ap level z ∙ at_level in
                  let g : a < get_or heads k 0 = subst (λ x. a < get_or heads x 0) e (c.heads_last a q.0) in
                  omega (arith, g, first, z, h, f.links_fall a))) l.0,
              l.1,
            )

-- an index behind all that are pending is put before the chain of its level
module _ (level : ℕ → ℕ) (m : List Sought) (links heads : List ℕ) (k i : ℕ) (f : Fits m links heads) (c : Chain level m links heads) (behind : (j : ℕ) → Pending m j → j < i) (at_level : level i ≡ k) (small : k ≤ 4096) (within : i < 2048) where
  abbrev m' : List Sought
  m' = set m i Ongoing

  abbrev links' : List ℕ
  links' = set links i (get_or heads k 0)

  abbrev heads' : List ℕ
  heads' = set heads k (i + 1)

  now_pending : Pending m' i
  now_pending = set_there m i Ongoing (omega (arith, within, f.room))

  earlier : (j : ℕ) → j ≢ i → Pending m' j → Pending m j
  earlier j n p = sym (set-elsewhere m i Ongoing j n) ∙ p

  later : (j : ℕ) → Pending m j → Pending m' j
  later j p = set-elsewhere m i Ongoing j (λ e. omega (arith, e, behind j p)) ∙ p

  -- the first of the chain is before the index
  first-before : get_or heads k 0 ≤ i
  first-before = before (get_or heads k 0) refl where
    before : (n : ℕ) → get_or heads k 0 ≡ n → n ≤ i
    before zero e = omega arith
    before (suc j) e = omega (arith, behind j (c.heads_is k j e).0)

  links_there : get_or links' i 0 ≡ get_or heads k 0
  links_there = get_or-set_same links i (get_or heads k 0) 0 (omega (arith, within, f.links_room))

  links_elsewhere : (j : ℕ) → j ≢ i → get_or links' j 0 ≡ get_or links j 0
  links_elsewhere j n = get_or-set_other links i j (get_or heads k 0) 0 n

  heads_there : get_or heads' k 0 ≡ i + 1
  heads_there = get_or-set_same heads k (i + 1) 0 (omega (arith, small, f.heads_room))

  heads_elsewhere : (l : ℕ) → l ≢ k → get_or heads' l 0 ≡ get_or heads l 0
  heads_elsewhere l n = get_or-set_other heads k l (i + 1) 0 n

  pub added-fits : Fits (set m i Ongoing) (set links i (get_or heads k 0)) (set heads k (i + 1))
  added-fits =
      record {
        room = length-set m i Ongoing ∙ f.room;
        links_room = length-set links i (get_or heads k 0) ∙ f.links_room;
        heads_room = length-set heads k (i + 1) ∙ f.heads_room;
        heads_most =
            λ l. elim (same_or_not l k) [
              | inl e ↦ (let h = ap (λ x. get_or heads' x 0) e in omega (arith, h, heads_there, within))
              | inr e ↦ omega (arith, heads_elsewhere l e, f.heads_most l)
            ];
        links_fall =
            λ j. elim (same_or_not j i) [
              | inl e ↦ (let h = ap (λ x. get_or links' x 0) e in omega (arith, h, e, links_there, first-before))
              | inr e ↦ omega (arith, links_elsewhere j e, f.links_fall j)
            ];
      }

  pub added : Chain level (set m i Ongoing) (set links i (get_or heads k 0)) (set heads k (i + 1))
  added =
      record {
        inside = λ j p. elim (same_or_not j i) [ inl e ↦ (let h = ap level e in omega (arith, h, at_level, small)) | inr e ↦ c.inside j (earlier j e p) ];
        heads_last = last;
        heads_is = is;
        links_last = link_last;
        links_is = linked;
      } where
        last : (j : ℕ) → Pending m' j → j < get_or heads' (level j) 0
        last j p =
            elim (same_or_not (level j) k) [
              | inl e ↦
                  subst (λ l. j < get_or heads' l 0) (sym e)
                  (elim (same_or_not j i) [ inl z ↦ omega (arith, z, heads_there) | inr z ↦ omega (arith, heads_there, behind j (earlier j z p)) ])
              | inr e ↦
                  (let z : j ≢ i = λ z. e (ap level z ∙ at_level) in
                  omega (arith, heads_elsewhere (level j) e, c.heads_last j (earlier j z p)))
            ]

        is : (l j : ℕ) → get_or heads' l 0 ≡ suc j → Pending m' j × (level j ≡ l)
        is l j h =
            elim (same_or_not l k) [
              | inl e ↦
                  (let g : i + 1 ≡ suc j = sym heads_there ∙ subst (λ x. get_or heads' x 0 ≡ suc j) e h in
                  let z : i ≡ j = omega (arith, g) in
                  subst (λ x. Pending m' x × (level x ≡ l)) z (now_pending, at_level ∙ sym e))
              | inr e ↦ (let q = c.heads_is l j (sym (heads_elsewhere l e) ∙ h) in (later j q.0, q.1))
            ]

        link_last : (a b : ℕ) → Pending m' a → Pending m' b → a < b → level a ≡ level b → a < get_or links' b 0
        link_last a b p q h e =
            elim (same_or_not b i) [
              | inl z ↦
                  (let x : a ≢ i = λ x. omega (arith, x, h, z) in
                  let y = c.heads_last a (earlier a x p) in
                  let l : level a ≡ k = e ∙ ap level z ∙ at_level in
                  let w : a < get_or heads k 0 = subst (λ n. a < get_or heads n 0) l y in
                  subst (λ n. a < get_or links' n 0) (sym z) (omega (arith, w, links_there)))
              | inr z ↦
                  (let y = earlier b z q in
                  let x : a ≢ i = λ x. omega (arith, x, h, behind b y) in
                  omega (arith, links_elsewhere b z, c.links_last a b (earlier a x p) y h e))
            ]

        linked : (a b : ℕ) → Pending m' a → get_or links' a 0 ≡ suc b → Pending m' b × (level b ≡ level a)
        linked a b p h =
            elim (same_or_not a i) [
              | inl z ↦
                  (let g : get_or heads k 0 ≡ suc b = sym links_there ∙ subst (λ n. get_or links' n 0 ≡ suc b) z h in
                  let q = c.heads_is k b g in
                  (later b q.0, q.1 ∙ sym at_level ∙ ap level (sym z)))
              | inr z ↦ (let q = c.links_is a b (earlier a z p) (sym (links_elsewhere a z) ∙ h) in (later b q.0, q.1))
            ]
