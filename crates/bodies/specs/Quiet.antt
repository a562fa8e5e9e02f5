-- Bytes at which no search ends and no bracket is counted. The walk goes past them and nothing else changes.
use Rattle.std.specs.Prelude.{ℕ, zero, suc, ◌+◌, ◌-◌, ◌≤◌, ◌<◌, ◌≡◌, refl, ◌≢◌, List, length, get_or}
use Rattle.std.proofs.Common.{subst, sym, inl, inr, arith, ne_eqb}
use Rattle.text_rules.specs.Classes.{angle_close, angle_open, brace_open, semicolon, square_close, square_open}
use Rattle.text_rules.specs.Search.{count_after}
use Rattle.angles.specs.Angles.{same_or_not}
use Rattle.angles.specs.Groups.{passes_other}
use Rattle.bodies.specs.Walking.{Ends, Kept, ended-other, kept-further, level_of}
use Rattle.bodies.specs.declared.Walk.{Walk}

abbrev pub Quiet : ℕ → Type 0
Quiet b = (b ≢ angle_open) × (b ≢ angle_close) × (b ≢ square_open) × (b ≢ square_close) × (b ≢ brace_open) × (b ≢ semicolon)

abbrev pub AllQuiet : List ℕ → (from to : ℕ) → Type 0
AllQuiet s from to = (i : ℕ) → from ≤ i → i < to → Quiet (get_or s i 0)

pub quiet-more : (s : List ℕ) (from at : ℕ) → AllQuiet s from at → Quiet (get_or s at 0) → AllQuiet s from (at + 1)
quiet-more s from at q b i l h = elim (same_or_not i at) [ inl e ↦ subst (λ x. Quiet (get_or s x 0)) (sym e) b | inr e ↦ q i l (omega (arith, h, e)) ]

-- the walk at another place
abbrev pub moved : Walk → ℕ → Walk
moved w at = record { at = at; next = w.next; opened = w.opened; closed = w.closed; groups = w.groups; searches = w.searches }

-- the walk behind quiet bytes
abbrev pub Skips : List ℕ → (w v : Walk) → Type 0
Skips s w v = (v ≡ moved w v.at) × (w.at ≤ v.at) × (v.at ≤ length s) × AllQuiet s w.at v.at

count-quiet : (x b n : ℕ) → b ≢ x → n ≡ count_after x b n
unfolding count_after
count-quiet x b n h = rw (ne_eqb b x h)

module _ (s starts : List ℕ) where
  quiet-byte : (w : Walk) → Kept s starts w → w.at < length s → Quiet (get_or s w.at 0) → Kept s starts (moved w (w.at + 1))
  quiet-byte w k h q =
      let b = get_or s w.at 0 in
      kept-further s starts w k h w.searches (record { fit = k.fits; pending = omega arith; low = refl; high = refl })
      (ended-other (level_of s starts) (Ends w (level_of s starts)) b w.at w.searches.told w.searches.links w.searches.heads q.4 q.5 k.chain) w.groups
      (passes_other b w.next w.at w.groups k.stack q.0 q.1) w.opened w.closed
      (count-quiet square_open b w.opened q.2) (count-quiet square_close b w.closed q.3)

  quiet_bytes : (w : Walk) (n : ℕ) → Kept s starts w → w.at + n ≤ length s → AllQuiet s w.at (w.at + n) → Kept s starts (moved w (w.at + n))
  quiet_bytes w zero k h q = let e : w.at ≡ w.at + 0 = omega arith in subst (λ x. Kept s starts (moved w x)) e k
  quiet_bytes w (suc n) k h q =
      let e : w.at + n + 1 ≡ w.at + suc n = omega arith in
      subst (λ x. Kept s starts (moved w x)) e
      (quiet-byte (moved w (w.at + n)) (quiet_bytes w n k (omega (arith, h)) (λ i l g. q i l (omega (arith, g)))) (omega (arith, h)) (q (w.at + n) (omega arith) (omega arith)))

  pub kept-skipped : (w v : Walk) → Kept s starts w → Skips s w v → Kept s starts v
  kept-skipped w v k e =
      let d : w.at + (v.at - w.at) ≡ v.at = omega (arith, e.1) in
      subst (λ x. Kept s starts x) (sym e.0)
      (subst (λ x. Kept s starts (moved w x)) d
      (quiet_bytes w (v.at - w.at) k (omega (arith, d, e.2)) (λ i l g. e.3 i l (omega (arith, g, d)))))
