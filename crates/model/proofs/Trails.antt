-- Trails of any core: more steps change nothing, where a cut stands, that each entry is of a state of the run and none is left out, how a trail
-- ends, and that a landing closes it.
use Prim.Native.Nat.{ℕ, zero, suc, ◌+◌, ◌-◌, ◌≤◌, ◌<◌, min}
use mathlib.Core.Path.{◌≡◌, refl, sym, ap, ◌∙◌}
use mathlib.Core.List.{List, [], ◌∷◌}
use mathlib.Core.Option.{Option, none, some}
use native.Mathlib.Omega.{arith}
use lib.ListN.{length}
use borrow.Author.Tests.{le-leb, lt-leb}
use Rattle.machine.specs.Ends.{Ending, ending, Next, go, halt, State, state, live, settle}
use Rattle.effects.specs.Effect.{Machine}
use Rattle.model.specs.Run.{step, run}
use Rattle.model.specs.Trails.{Core, shown_at, Trail, at, closes, turn, trail, entries, later, closing, Unspent, reached, one_if, stood, landed, Traced}
use Rattle.model.proofs.Hop.{lands, ends_by, leaves, left, after, Over, settled}

pub none_some : {A : Type 0} {h : ℕ} → none ≡ some h → A
none_some e = let z : ◌≡◌ {A = ℕ} 0 1 = cc in absurd (omega arith)

zero_suc : {A : Type 0} {n v w : ℕ} → ending 0 v ≡ ending (suc n) w → A
zero_suc {n = n} e = let z : ◌≡◌ {A = ℕ} 0 (suc n) = cc in absurd (omega arith)

module _ {S : Type 0} (c : Core S) where
  -- -------------------------------------------------------------- more steps
  more : (f e k gap : ℕ) (o : Option ℕ) (m : Machine) (x : State S)
      → ((k gap : ℕ) → Unspent (trail c f k gap x) → trail c e k gap x ≡ trail c f k gap x)
      → Unspent (turn (trail c f) k gap o m x) → turn (trail c e) k gap o m x ≡ turn (trail c f) k gap o m x
  more f e k gap none m x ih u = ih k (suc gap) u
  more f e zero gap (some a) m x ih u = refl
  more f e (suc k) gap (some a) m x ih u = ap (at gap a m) (ih k 1 u)

  -- a trail that did not run out of steps is the same for every larger count
  pub steady_on : (f e k gap : ℕ) (x : State S) → f ≤ e → Unspent (trail c f k gap x) → trail c e k gap x ≡ trail c f k gap x
  steady_on zero e k gap (state s (ending zero v)) l u = absurd u
  steady_on zero zero k gap (state s (ending (suc n) v)) l u = refl
  steady_on zero (suc e) k gap (state s (ending (suc n) v)) l u = refl
  steady_on (suc f) zero k gap x l u = absurd (omega arith)
  steady_on (suc f) (suc e) k gap (state s (ending (suc n) v)) l u = refl
  steady_on (suc f) (suc e) k gap (state s (ending zero v)) l u =
      more f e k gap (c.mark s) (shown_at c s) (step c.next (live s)) (λ k gap. steady_on f e k gap (step c.next (live s)) (omega arith)) u

  -- -------------------------------------------------------------- where a cut stands
  none_turn : (f gap : ℕ) (o : Option ℕ) (m : Machine) (x : State S) → ((gap : ℕ) → length (entries (trail c f 0 gap x)) ≡ 0)
      → length (entries (turn (trail c f) 0 gap o m x)) ≡ 0
  none_turn f gap none m x ih = ih (suc gap)
  none_turn f gap (some a) m x ih = refl

  none_closes : (o : Option ℕ) (gap n v : ℕ) (m : Machine) → length (entries (closes o 0 gap m (ending n v))) ≡ 0
  none_closes (some h) gap n v m = refl
  none_closes none gap n v m = refl

  none_at_0 : (f gap : ℕ) (x : State S) → length (entries (trail c f 0 gap x)) ≡ 0
  none_at_0 zero gap (state s (ending zero v)) = refl
  none_at_0 zero gap (state s (ending (suc n) v)) = none_closes (c.by_held s) gap (suc n) v (shown_at c s)
  none_at_0 (suc f) gap (state s (ending (suc n) v)) = none_closes (c.by_held s) gap (suc n) v (shown_at c s)
  none_at_0 (suc f) gap (state s (ending zero v)) =
      none_turn f gap (c.mark s) (shown_at c s) (step c.next (live s)) (λ gap. none_at_0 f gap (step c.next (live s)))

  -- t is cut at k, u at k + 1
  pub record Cut (k : ℕ) (t u : Trail) : Type 0 where
    pub filled : closing t ≡ ending 0 0 → length (entries t) ≡ k
    pub there : closing t ≡ ending 0 0 → length (entries u) ≡ suc k
    pub back : length (entries u) ≡ suc k → closing t ≡ ending 0 0

  cut_turn : (f k gap : ℕ) (o : Option ℕ) (m : Machine) (x : State S)
      → ((k gap : ℕ) → Unspent (trail c f k gap x) → Cut k (trail c f k gap x) (trail c f (suc k) gap x))
      → Unspent (turn (trail c f) k gap o m x) → Cut k (turn (trail c f) k gap o m x) (turn (trail c f) (suc k) gap o m x)
  cut_turn f k gap none m x ih u = ih k (suc gap) u
  cut_turn f zero gap (some a) m x ih u = record { filled = λ e. refl; there = λ e. ap suc (none_at_0 f 1 x); back = λ e. refl }
  cut_turn f (suc k) gap (some a) m x ih u =
      let r : Cut k (trail c f k 1 x) (trail c f (suc k) 1 x) = ih k 1 u in
      record { filled = λ e. ap suc (r.filled e); there = λ e. ap suc (r.there e); back = λ e. r.back (omega arith) }

  cut_closes : (o : Option ℕ) (k gap n v : ℕ) (m : Machine) → Cut k (closes o k gap m (ending (suc n) v)) (closes o (suc k) gap m (ending (suc n) v))
  cut_closes none k gap n v m = record { filled = λ e. zero_suc (sym e); there = λ e. zero_suc (sym e); back = λ e. absurd (omega arith) }
  cut_closes (some h) zero gap n v m = record { filled = λ e. refl; there = λ e. refl; back = λ e. refl }
  cut_closes (some h) (suc k) gap n v m = record { filled = λ e. zero_suc (sym e); there = λ e. zero_suc (sym e); back = λ e. absurd (omega arith) }

  pub cuts : (f k gap : ℕ) (x : State S) → Unspent (trail c f k gap x) → Cut k (trail c f k gap x) (trail c f (suc k) gap x)
  cuts zero k gap (state s (ending zero v)) u = absurd u
  cuts zero k gap (state s (ending (suc n) v)) u = cut_closes (c.by_held s) k gap n v (shown_at c s)
  cuts (suc f) k gap (state s (ending (suc n) v)) u = cut_closes (c.by_held s) k gap n v (shown_at c s)
  cuts (suc f) k gap (state s (ending zero v)) u =
      cut_turn f k gap (c.mark s) (shown_at c s) (step c.next (live s)) (λ k gap. cuts f k gap (step c.next (live s))) u

  -- -------------------------------------------------------------- runs
  pub run_suc : (n : ℕ) (x : State S) → run c.next (suc n) x ≡ step c.next (run c.next n x)
  unfolding run
  run_suc zero x = refl
  run_suc (suc n) x = run_suc n (step c.next x)

  run_ended : (n z v : ℕ) (s : S) → run c.next n (state s (ending (suc z) v)) ≡ state s (ending (suc z) v)
  unfolding run step
  run_ended zero z v s = refl
  run_ended (suc n) z v s = run_ended n z v s

  -- -------------------------------------------------------------- each entry is of a state of the run
  abbrev pub Shows : State S → Trail → Type 0
  Shows w t = Traced c w (later t) (entries t)

  traced_closes : (k gap n v : ℕ) (w : State S) (s : S) (o : Option ℕ) → c.by_held s ≡ o → run c.next gap w ≡ state s (ending (suc n) v)
      → Shows w (closes o k gap (shown_at c s) (ending (suc n) v))
  traced_closes k gap n v w s none q e = tt
  traced_closes zero gap n v w s (some h) q e = tt
  traced_closes (suc k) gap n v w s (some h) q e = rw e ((q, refl), tt)

  traced_turn : (f k gap : ℕ) (w : State S) (s : S) (v : ℕ) (o : Option ℕ) → c.mark s ≡ o → run c.next gap w ≡ state s (ending zero v)
      → ((k gap : ℕ) (w : State S) → run c.next gap w ≡ step c.next (live s) → Shows w (trail c f k gap (step c.next (live s))))
      → Shows w (turn (trail c f) k gap o (shown_at c s) (step c.next (live s)))
  unfolding run step
  traced_turn f k gap w s v none q e ih = ih k (suc gap) w (run_suc gap w ∙ ap (step c.next) e)
  traced_turn f zero gap w s v (some a) q e ih = tt
  traced_turn f (suc k) gap w s v (some a) q e ih = rw e ((q, refl), ih k 1 (state s (ending zero v)) refl)

  pub traced_so : (f k gap : ℕ) (w z : State S) → run c.next gap w ≡ z → Shows w (trail c f k gap z)
  traced_so zero k gap w (state s (ending zero v)) e = tt
  traced_so zero k gap w (state s (ending (suc n) v)) e = traced_closes k gap n v w s (c.by_held s) refl e
  traced_so (suc f) k gap w (state s (ending (suc n) v)) e = traced_closes k gap n v w s (c.by_held s) refl e
  traced_so (suc f) k gap w (state s (ending zero v)) e =
      traced_turn f k gap w s v (c.mark s) refl e (λ k gap w. traced_so f k gap w (step c.next (live s)))

  -- -------------------------------------------------------------- as many entries as marks
  -- no mark stands after an end
  none_stands : (n z v : ℕ) (s : S) → stood c n (state s (ending (suc z) v)) ≡ 0
  unfolding step
  none_stands zero z v s = refl
  none_stands (suc n) z v s = omega (arith, none_stands n z v s)

  reached_here : (gap n : ℕ) (gs : List ℕ) → reached (gap + n) (gap ∷ gs) ≡ suc (reached n gs)
  unfolding reached
  reached_here gap n gs =
      let e : gap + n - gap ≡ n = omega arith in
      rw (le-leb gap (gap + n) (omega arith), e)

  -- fewer steps than were done since the last entry lead to no other
  too_few_turn : (f n k gap : ℕ) (o : Option ℕ) (m : Machine) (x : State S) → n < gap
      → ((k gap : ℕ) → n < gap → reached n (later (trail c f k gap x)) ≡ 0) → reached n (later (turn (trail c f) k gap o m x)) ≡ 0
  unfolding reached
  too_few_turn f n k gap none m x l ih = ih k (suc gap) (omega arith)
  too_few_turn f n zero gap (some a) m x l ih = refl
  too_few_turn f n (suc k) gap (some a) m x l ih = rw (lt-leb gap n l)

  too_few_closes : (n k gap : ℕ) (o : Option ℕ) (m : Machine) (e : Ending) → n < gap → reached n (later (closes o k gap m e)) ≡ 0
  unfolding reached
  too_few_closes n k gap none m e l = refl
  too_few_closes n zero gap (some h) m e l = refl
  too_few_closes n (suc k) gap (some h) m e l = rw (lt-leb gap n l)

  too_few : (f n k gap : ℕ) (x : State S) → n < gap → reached n (later (trail c f k gap x)) ≡ 0
  unfolding reached
  too_few zero n k gap (state s (ending zero v)) l = refl
  too_few zero n k gap (state s (ending (suc z) v)) l = too_few_closes n k gap (c.by_held s) (shown_at c s) (ending (suc z) v) l
  too_few (suc f) n k gap (state s (ending (suc z) v)) l = too_few_closes n k gap (c.by_held s) (shown_at c s) (ending (suc z) v) l
  too_few (suc f) n k gap (state s (ending zero v)) l =
      too_few_turn f n k gap (c.mark s) (shown_at c s) (step c.next (live s)) l (λ k gap. too_few f n k gap (step c.next (live s)))

  -- the marks among the states after 0, 1, .. n steps from x, and the landing that they come to
  abbrev met : ℕ → State S → ℕ
  met n x = stood c n x + landed c (run c.next n x)

  abbrev AsMany : ℕ → Type 0
  AsMany n = (f k gap : ℕ) (x : State S) → n < f → reached (gap + n) (later (trail c f k gap x)) ≡ min (met n x) k

  as_many_ended : (n k gap : ℕ) (o : Option ℕ) (m : Machine) (e : Ending) → reached (gap + n) (later (closes o k gap m e)) ≡ min (one_if o) k
  unfolding reached
  as_many_ended n k gap none m e = omega arith
  as_many_ended n zero gap (some h) m e = omega arith
  as_many_ended n (suc k) gap (some h) m e = reached_here gap n [] ∙ omega arith

  -- the mark o before the first step, and the states x and after
  as_many_first : (f k gap : ℕ) (o : Option ℕ) (m : Machine) (x : State S) → reached (gap + 0) (later (turn (trail c f) k gap o m x)) ≡ min (one_if o) k
  unfolding reached
  as_many_first f k gap none m x = too_few f (gap + 0) k (suc gap) x (omega arith) ∙ omega arith
  as_many_first f zero gap (some a) m x = omega arith
  as_many_first f (suc k) gap (some a) m x =
      reached_here gap 0 (later (trail c f k 1 x)) ∙ omega (arith, too_few f 0 k 1 x (omega arith))

  as_many_turn : (n f k gap : ℕ) (o : Option ℕ) (m : Machine) (x : State S) → AsMany n → n < f
      → reached (gap + suc n) (later (turn (trail c f) k gap o m x)) ≡ min (one_if o + met n x) k
  unfolding reached
  as_many_turn n f k gap none m x ih l =
      let e : gap + suc n ≡ suc gap + n = omega arith in
      ap (λ i. reached i (later (trail c f k (suc gap) x))) e ∙ ih f k (suc gap) x l ∙ omega arith
  as_many_turn n f zero gap (some a) m x ih l = omega arith
  as_many_turn n f (suc k) gap (some a) m x ih l =
      let e : 1 + n ≡ suc n = omega arith in
      let i : reached (suc n) (later (trail c f k 1 x)) ≡ min (met n x) k = rw e at (ih f k 1 x l) in
      reached_here gap (suc n) (later (trail c f k 1 x)) ∙ omega (arith, i)

  pub as_many_so : (n : ℕ) → AsMany n
  unfolding run step
  as_many_so zero zero k gap x l = absurd (omega arith)
  as_many_so zero (suc f) k gap (state s (ending zero v)) l =
      as_many_first f k gap (c.mark s) (shown_at c s) (step c.next (live s)) ∙ ap (λ i. min i k) (omega arith)
  as_many_so zero (suc f) k gap (state s (ending (suc z) v)) l =
      as_many_ended 0 k gap (c.by_held s) (shown_at c s) (ending (suc z) v) ∙ ap (λ i. min i k) (omega arith)
  as_many_so (suc n) zero k gap x l = absurd (omega arith)
  as_many_so (suc n) (suc f) k gap (state s (ending zero v)) l =
      as_many_turn n f k gap (c.mark s) (shown_at c s) (step c.next (live s)) (λ f k gap x. as_many_so n f k gap x) (omega arith)
      ∙ ap (λ i. min i k) (omega arith)
  as_many_so (suc n) (suc f) k gap (state s (ending (suc z) v)) l =
      as_many_ended (suc n) k gap (c.by_held s) (shown_at c s) (ending (suc z) v)
      ∙ ap (λ i. min i k) (rw (run_ended (suc n) z v s) (omega (arith, none_stands (suc n) z v s)))

  -- -------------------------------------------------------------- a landing closes the trail
  -- the state whose step ended the run, and that there was room for a landing's entry
  pub record Ended (k n v : ℕ) (x : State S) : Type 0 where
    pub steps : ℕ
    pub last : S
    pub going : run c.next steps x ≡ live last
    pub halts : c.next last ≡ halt (ending (suc n) v)
    pub room : (h : ℕ) → c.by_held last ≡ some h → stood c steps x < k

  module _ (over : (s : S) → Over c (c.next s)) (n v : ℕ) where
    abbrev Ends : ℕ → Type 0
    Ends f = (k gap : ℕ) (s : S) → closing (trail c f k gap (live s)) ≡ ending (suc n) v → Unspent (trail c f k gap (live s)) → Ended k n v (live s)

    -- what fell lands, and has room where the trail closes with its end
    ends_here : (f k j gap : ℕ) (s : S) (o : Option ℕ) (e : Ending) → c.next s ≡ halt e → c.by_held s ≡ o → one_if (c.mark s) + j ≤ k
        → closing (after c f j gap (ends_by o (shown_at c s) e)) ≡ ending (suc n) v → Ended k n v (live s)
    unfolding run
    ends_here f k j gap s none e q d l y =
        record { steps = 0; last = s; going = refl; halts = q ∙ ap halt y; room = λ h w. none_some (sym d ∙ w) }
    ends_here f k zero gap s (some h) e q d l y = zero_suc y
    ends_here f k (suc j) gap s (some h) e q d l y = record { steps = 0; last = s; going = refl; halts = q ∙ ap halt y; room = λ h w. omega arith }

    -- the step from s left r, with room for j entries after the one before s
    ends_after : (f k j gap : ℕ) (s : S) (r : Next S) → c.next s ≡ r → one_if (c.mark s) + j ≤ k → Ends f
        → closing (after c f j gap (leaves (c.by_held s) (shown_at c s) r)) ≡ ending (suc n) v → Unspent (after c f j gap (leaves (c.by_held s) (shown_at c s) r))
        → Ended k n v (live s)
    unfolding run step settle
    ends_after f k j gap s (go t) q l ih e u =
        let i : Ended j n v (live t) = ih j gap t e u in
        record {
          steps = suc i.steps;
          last = i.last;
          going = rw q i.going;
          halts = i.halts;
          room = λ h w. rw q (omega (arith, i.room h w));
        }
    ends_after f k j gap s (halt z) q l ih e u = ends_here f k j gap s (c.by_held s) z q refl l e

    ends_turn : (f k gap : ℕ) (s : S) (o : Option ℕ) → c.mark s ≡ o → Ends f
        → closing (turn (trail c f) k gap o (shown_at c s) (step c.next (live s))) ≡ ending (suc n) v
        → Unspent (turn (trail c f) k gap o (shown_at c s) (step c.next (live s))) → Ended k n v (live s)
    ends_turn f k gap s none q ih e u =
        ends_after f k k (suc gap) s (c.next s) refl (rw q (omega arith)) ih (rw (settled c over f k (suc gap) s) at e)
        (rw (settled c over f k (suc gap) s) at u)
    ends_turn f zero gap s (some a) q ih e u = zero_suc e
    ends_turn f (suc k) gap s (some a) q ih e u =
        ends_after f (suc k) k 1 s (c.next s) refl (rw q (omega arith)) ih (rw (settled c over f k 1 s) at e) (rw (settled c over f k 1 s) at u)

    pub ends_so : (f : ℕ) → Ends f
    ends_so zero k gap s e u = absurd u
    ends_so (suc f) k gap s e u = ends_turn f k gap s (c.mark s) refl (λ k gap s. ends_so f k gap s) e u

  -- -------------------------------------------------------------- a landing closes the trail
  module _ (over : (s : S) → Over c (c.next s)) (h : ℕ) (m : Machine) (e : Ending) (last : S) (landed : left c last ≡ lands h m e) where
    abbrev Closes : ℕ → Type 0
    Closes n = (f k gap : ℕ) (s : S) → n < f → run c.next n (live s) ≡ live last → stood c n (live s) < k → closing (trail c f k gap (live s)) ≡ e

    close_here : (f k gap : ℕ) (o : Option ℕ) → c.mark last ≡ o → one_if o < k → closing (turn (trail c f) k gap o (shown_at c last) (step c.next (live last))) ≡ e
    close_here f zero gap o q l = absurd (omega arith)
    close_here f (suc k) gap none q l = rw (settled c over f (suc k) (suc gap) last, landed)
    close_here f (suc zero) gap (some b) q l = absurd (omega arith)
    close_here f (suc (suc k)) gap (some b) q l = rw (settled c over f (suc k) 1 last, landed)

    close_on : (n f k gap : ℕ) (s t : S) (o : Option ℕ) → Closes n → n < f → run c.next n (live t) ≡ live last → one_if o + stood c n (live t) < k
        → closing (turn (trail c f) k gap o (shown_at c s) (live t)) ≡ e
    close_on n f k gap s t none ih l r w = ih f k (suc gap) t l r (omega arith)
    close_on n f zero gap s t (some b) ih l r w = absurd (omega arith)
    close_on n f (suc k) gap s t (some b) ih l r w = ih f k 1 t l r (omega arith)

    close_step : (n f k gap : ℕ) (s : S) (r : Next S) → Over c r → Closes n → n < f → run c.next n (settle s r) ≡ live last
        → one_if (c.mark s) + stood c n (settle s r) < k → closing (turn (trail c f) k gap (c.mark s) (shown_at c s) (settle s r)) ≡ e
    unfolding settle
    close_step n f k gap s (go t) y ih l r w = close_on n f k gap s t (c.mark s) ih l r w
    close_step n f k gap s (halt (ending zero v)) y ih l r w = absurd (omega arith)
    close_step n f k gap s (halt (ending (suc b) v)) y ih l r w =
        let i : state s (ending (suc b) v) ≡ live last = sym (run_ended n b v s) ∙ r in
        let j : ◌≡◌ {A = ℕ} 0 (suc b) = cc in
        absurd (omega arith)

    pub closes_so : (n : ℕ) → Closes n
    unfolding run step
    closes_so zero zero k gap s l r w = absurd (omega arith)
    closes_so zero (suc f) k gap s l r w = let i : s ≡ last = cc in rw i (close_here f k gap (c.mark last) refl (rw i at w))
    closes_so (suc n) zero k gap s l r w = absurd (omega arith)
    closes_so (suc n) (suc f) k gap s l r w =
        close_step n f k gap s (c.next s) (over s) (λ f k gap s. closes_so n f k gap s) (omega arith) r w
