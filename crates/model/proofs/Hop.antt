-- From one entry to the next in one or two steps: what that does to a trail, of any core.
use Prim.Native.Nat.{ℕ, zero, suc, ◌≤◌}
use mathlib.Core.Path.{◌≡◌, refl}
use mathlib.Core.Option.{Option, none, some}
use native.Mathlib.Omega.{arith}
use Rattle.machine.specs.Ends.{Ending, ending, Next, go, halt, state, live, settle}
use Rattle.effects.specs.Effect.{Machine}
use Rattle.model.specs.Run.{step}
use Rattle.model.specs.Trails.{Core, shown_at, Trail, shut, at, closes, trail}

-- what a step left: a state that is going, an end, or an end at a landing without a place, with that entry's address and what it shows
pub data Left (S : Type 0) : Type 0 where
  onward : S → Left S
  ends : Ending → Left S
  lands : ℕ → Machine → Ending → Left S

abbrev pub ends_by : {S : Type 0} → Option ℕ → Machine → Ending → Left S
ends_by (some h) m e = lands h m e
ends_by none m e = ends e

abbrev pub leaves : {S : Type 0} → Option ℕ → Machine → Next S → Left S
leaves held m (go t) = onward t
leaves held m (halt e) = ends_by held m e

module _ {S : Type 0} (c : Core S) where
  abbrev pub left : S → Left S
  left s = leaves (c.by_held s) (shown_at c s) (c.next s)

  -- r is left after one step from s, or after two with no entry between them
  pub data Hop (s : S) (r : Left S) : Type 0 where
    once : left s ≡ r → Hop s r
    twice : (t : S) → left s ≡ onward t → c.mark t ≡ none → left t ≡ r → Hop s r

  -- the trail of what a step left
  abbrev pub after : ℕ → ℕ → ℕ → Left S → Trail
  after f k gap (onward s) = trail c f k gap (live s)
  after f k gap (ends e) = shut e
  after f k gap (lands h m e) = closes (some h) k gap m e

  -- a step ends with no end but one above 0
  abbrev pub Over : Next S → Type 0
  Over (go s) = Unit {0}
  Over (halt (ending n v)) = 1 ≤ n

  ended : (f k gap n v : ℕ) (s : S) → trail c f k gap (state s (ending (suc n) v)) ≡ closes (c.by_held s) k gap (shown_at c s) (ending (suc n) v)
  ended zero k gap n v s = refl
  ended (suc f) k gap n v s = refl

  closed : (f k gap : ℕ) (o : Option ℕ) (m : Machine) (e : Ending) → closes o k gap m e ≡ after f k gap (ends_by o m e)
  closed f k gap (some h) m e = refl
  closed f k gap none m e = refl

  settled_as : (f k gap : ℕ) (s : S) (r : Next S) → Over r → trail c f k gap (settle s r) ≡ after f k gap (leaves (c.by_held s) (shown_at c s) r)
  unfolding settle
  settled_as f k gap s (go t) o = refl
  settled_as f k gap s (halt (ending zero v)) o = absurd (omega arith)
  settled_as f k gap s (halt (ending (suc n) v)) o = rw (ended f k gap n v s) (closed f k gap (c.by_held s) (shown_at c s) (ending (suc n) v))

  module _ (over : (s : S) → Over (c.next s)) where
    pub settled : (f k gap : ℕ) (s : S) → trail c f k gap (step c.next (live s)) ≡ after f k gap (left s)
    unfolding step
    settled f k gap s = settled_as f k gap s (c.next s) (over s)

    pub record Hopped (f k gap a : ℕ) (s : S) (r : Left S) : Type 0 where
      pub steps : ℕ
      pub fuel : ℕ
      pub pace : (1 ≤ steps) × (steps ≤ 2)
      pub enough : f ≤ fuel
      pub eq : trail c (suc (suc f)) (suc k) gap (live s) ≡ at gap a (shown_at c s) (after fuel k steps r)

    pub hopped : (f k gap a : ℕ) (s : S) (r : Left S) → c.mark s ≡ some a → Hop s r → Hopped f k gap a s r
    hopped f k gap a s r e (once h) =
        record { steps = 1; fuel = suc f; pace = omega arith; enough = omega arith; eq = rw (e, settled (suc f) k 1 s, h) }
    hopped f k gap a s r e (twice t h u i) =
        record { steps = 2; fuel = f; pace = omega arith; enough = omega arith; eq = rw (e, settled (suc f) k 1 s, h, u, settled f k 2 t, i) }
