-- Two cores that do the same step by step, told apart only by how they hold their states, make the same trails.
use Prim.Native.Nat.{ℕ, zero, suc}
use native.Mathlib.Omega.{arith}
use mathlib.Core.Path.{◌≡◌, refl, sym, ap, ◌∙◌, subst, subst₂}
use mathlib.Core.Logic.{◌↔◌}
use mathlib.Core.Bool.{Bool}
use mathlib.Core.Option.{Option, none, some}
use Rattle.machine.specs.Ends.{ending, Next, go, halt, State, state, live, settle}
use Rattle.effects.specs.Effect.{Machine}
use Rattle.model.specs.Run.{step, run}
use Rattle.model.specs.Trails.{Core, shown_at, Trail, at, turn, trail, one_if, counted, stood}
use Rattle.model.specs.Cores.{Start, trail_of}
use Rattle.model.specs.Demand3.{Begins, Complete, Strays, Claim, Holds}

-- the same step: on to related states, or the same end
abbrev pub Alike : {S T : Type 0} → (S → T → Type 0) → Next S → Next T → Type 0
Alike R (go s) (go t) = R s t
Alike R (go s) (halt e) = ⊥
Alike R (halt e) (go t) = ⊥
Alike R (halt e) (halt f) = e ≡ f

-- related states with the same end
abbrev pub Beside : {S T : Type 0} → (S → T → Type 0) → State S → State T → Type 0
Beside {T = T} R (state s e) y = (t : T) × ((y ≡ state t e) × R s t)

pub record Related {S T : Type 0} (c : Core S) (d : Core T) (R : S → T → Type 0) : Type 0 where
  pub marks : (s : S) (t : T) → R s t → c.mark s ≡ d.mark t
  pub shows : (s : S) (t : T) → R s t → shown_at c s ≡ shown_at d t
  pub goes : (s : S) (t : T) → R s t → c.by_held s ≡ d.by_held t
  pub steps : (s : S) (t : T) → R s t → Alike R (c.next s) (d.next t)

module _ {S T : Type 0} (c : Core S) (d : Core T) (R : S → T → Type 0) (Q : Related c d R) where
  settle_beside : (s : S) (t : T) (x : Next S) (y : Next T) → R s t → Alike R x y → Beside R (settle s x) (settle t y)
  unfolding settle
  settle_beside s t (go u) (go v) r a = (v, (refl, a))
  settle_beside s t (go u) (halt e) r a = absurd a
  settle_beside s t (halt e) (go v) r a = absurd a
  settle_beside s t (halt e) (halt f) r a = (t, (rw a, r))

  step_beside : (x : State S) (y : State T) → Beside R x y → Beside R (step c.next x) (step d.next y)
  unfolding step
  step_beside (state s (ending zero v)) y b = rw b.1.0 (settle_beside s b.0 (c.next s) (d.next b.0) b.1.1 (Q.steps s b.0 b.1.1))
  step_beside (state s (ending (suc n) v)) y b = (b.0, (rw b.1.0, b.1.1))

  pub run_beside : (n : ℕ) (x : State S) (y : State T) → Beside R x y → Beside R (run c.next n x) (run d.next n y)
  unfolding run
  run_beside zero x y b = b
  run_beside (suc n) x y b = run_beside n (step c.next x) (step d.next y) (step_beside x y b)

  counted_same : (x : State S) (y : State T) → Beside R x y → counted c x ≡ counted d y
  counted_same (state s (ending zero v)) y b = rw b.1.0 (ap one_if (Q.marks s b.0 b.1.1))
  counted_same (state s (ending (suc n) v)) y b = rw b.1.0

  pub stood_same : (n : ℕ) (x : State S) (y : State T) → Beside R x y → stood c n x ≡ stood d n y
  stood_same zero x y b = counted_same x y b
  stood_same (suc n) x y b =
      let e = counted_same x y b in
      let f = stood_same n (step c.next x) (step d.next y) (step_beside x y b) in
      omega (arith, e, f)

  turn_same : (f k gap : ℕ) (o : Option ℕ) (m : Machine) (x : State S) (y : State T) → ((k gap : ℕ) → trail c f k gap x ≡ trail d f k gap y)
      → turn (trail c f) k gap o m x ≡ turn (trail d f) k gap o m y
  turn_same f k gap none m x y ih = ih k (suc gap)
  turn_same f zero gap (some a) m x y ih = refl
  turn_same f (suc k) gap (some a) m x y ih = ap (at gap a m) (ih k 1)

  pub trail_same : (f k gap : ℕ) (x : State S) (y : State T) → Beside R x y → trail c f k gap x ≡ trail d f k gap y
  trail_same zero k gap (state s (ending zero v)) y b = rw b.1.0
  trail_same zero k gap (state s (ending (suc n) v)) y b = rw (b.1.0, Q.goes s b.0 b.1.1, Q.shows s b.0 b.1.1)
  trail_same (suc f) k gap (state s (ending (suc n) v)) y b = rw (b.1.0, Q.goes s b.0 b.1.1, Q.shows s b.0 b.1.1)
  trail_same (suc f) k gap (state s (ending zero v)) y b =
      rw (b.1.0, Q.marks s b.0 b.1.1, Q.shows s b.0 b.1.1)
      (turn_same f k gap (d.mark b.0) (shown_at d b.0) (step c.next (live s)) (step d.next (live b.0))
      (λ k gap. trail_same f k gap (step c.next (live s)) (step d.next (live b.0)) (step_beside (live s) (live b.0) (b.0, (refl, b.1.1)))))

  -- where one strays, so does the other
  pub strays_on : (placed : ℕ → Type 0) (inside : ℕ → Bool) (k : ℕ) (x : State S) (y : State T) (h : ℕ) → Beside R x y → Strays placed inside c k x h
      → Strays placed inside d k y h
  strays_on placed inside k x y h b s =
      let q : Beside R (live s.there) (run d.next s.steps y) = rw s.going at (run_beside s.steps x y b) in
      record {
        steps = s.steps;
        there = q.0;
        going = q.1.0;
        by_held_lem = sym (Q.goes s.there q.0 q.1.1) ∙ s.by_held_lem;
        address_in_image = s.address_in_image;
        no_place = s.no_place;
        room = rw (← stood_same s.steps x y b) s.room;
      }

-- the other way round
pub flipped : {S T : Type 0} {c : Core S} {d : Core T} {R : S → T → Type 0} → Related c d R → Related d c (λ t s. R s t)
flipped {c = c} {d = d} {R = R} q =
    record {
      marks = λ t s r. sym (q.marks s t r);
      shows = λ t s r. sym (q.shows s t r);
      goes = λ t s r. sym (q.goes s t r);
      steps = λ t s r. turned (c.next s) (d.next t) (q.steps s t r);
    }
  where
    turned : (x : Next _) (y : Next _) → Alike R x y → Alike (λ t s. R s t) y x
    turned (go s) (go t) a = a
    turned (go s) (halt e) a = a
    turned (halt e) (go t) a = a
    turned (halt e) (halt f) a = sym a

pub flip_beside : {S T : Type 0} (R : S → T → Type 0) (x : State S) (y : State T) → Beside R x y → Beside (λ t s. R s t) y x
flip_beside R (state s e) y b = rw b.1.0 (s, (refl, b.1.1))

-- the claim is about where the exception holds, however that is told
pub claim_by : (strays strays' : ℕ → Type 0) (t u : Trail) → ((h : ℕ) → strays h ↔ strays' h) → Claim strays t u → Claim strays' t u
claim_by strays strays' t u e c =
    record {
      equal = λ none. c.equal (λ h s. none h ((e h).0 s));
      six = λ h. (λ z. (e h).0 ((c.six h).0 z), λ s. (c.six h).1 ((e h).1 s));
      six_is_last = λ h s. c.six_is_last h ((e h).1 s);
      six_equal = λ h s. c.six_equal h ((e h).1 s);
      new_pace = c.new_pace;
      old_pace = c.old_pace;
    }

-- demand 3's conclusion goes over to cores that make the same trails and stray where the others do
pub holds_on : {S T S' T' : Type 0} (placed : ℕ → Type 0) (inside : ℕ → Bool) (k : ℕ) (x y : Start)
    (o : Core S) (a : State S) (n : Core T) (b : State T) (o' : Core S') (a' : State S') (n' : Core T') (b' : State T')
    → trail_of o' k a' ≡ trail_of o k a → trail_of n' k b' ≡ trail_of n k b → Complete o' k a' → Complete n' k b'
    → ((h : ℕ) → Strays placed inside n k b h ↔ Strays placed inside n' k b' h)
    → Holds placed inside k x y o a n b → Holds placed inside k x y o' a' n' b'
holds_on placed inside k x y o a n b o' a' n' b' t u co cn e H =
    record {
      old_begins_lem = subst (Begins x) (sym t) H.old_begins_lem;
      new_begins_lem = subst (Begins y) (sym u) H.new_begins_lem;
      old_complete = co;
      new_complete = cn;
      claim = subst₂ (Claim (Strays placed inside n' k b')) (sym t) (sym u) (claim_by (Strays placed inside n k b) (Strays placed inside n' k b')
          (trail_of o k a) (trail_of n k b) e H.claim);
    }
