-- Two cores that follow places, from a place of both: their trails, entry by entry, by induction on the cut. Either may stray: go by a held address
-- at which it does not go on.
use Prim.Native.Nat.{ℕ, zero, suc, ◌+◌, ◌*◌, ◌%◌, ◌≤◌}
use native.Mathlib.Omega.{arith}
use mathlib.Core.Path.{◌≡◌, refl, sym, ap, ◌∙◌, subst₂}
use mathlib.Core.Bool.{Bool, true, false, false≢true}
use mathlib.Core.List.{List}
use mathlib.Core.Option.{Option, none, some}
use lib.ListN.{length}
use Rattle.numbers.specs.Choice.{pick}
use Rattle.machine.specs.Ends.{Ending, ending, live}
use Rattle.effects.specs.Effect.{Machine}
use Rattle.machine.proofs.Ends.{RunEnd}
use Rattle.model.specs.declared.Place.{Place}
use Rattle.model.specs.Run.{step}
use Rattle.model.specs.OldCore.{in_image, word_in}
use Rattle.model.specs.Places.{plain, place_at, member}
use Rattle.model.specs.NewCore.{lost}
use Rattle.model.specs.Trails.{shown_of, Core, Trail, cut, shut, at, trail}
use Rattle.model.proofs.Transfers.{inside_word}
use Rattle.model.proofs.Hop.{onward, ends, lands, after, Hopped, hopped}
use Rattle.model.proofs.Middle.{Out, on, over, by, out, OutOk, out_ok}
use Rattle.model.proofs.Follows.{left_by, Follower, Meet}

-- from an entry to the next: one or two steps; to the first entry, whose lo is 0, none
abbrev pub Pace : ℕ → ℕ → Type 0
Pace lo gap = (lo ≤ gap) × (gap ≤ 2)

-- the trails of two cores, of which one goes on at the held addresses C and the other at D: equal entries and an equal close, which is no end 6,
-- unless one strays or both do, whose trail ends there with 6
pub data Same (C D : ℕ → Bool) : ℕ → Trail → Trail → Type 0 where
  both_cut : {lo : ℕ} → Same C D lo cut cut
  both_shut : {lo : ℕ} (e : Ending) → RunEnd e → Same C D lo (shut e) (shut e)
  both_at : {lo g h : ℕ} (a : ℕ) (m : Machine) {t u : Trail} → Pace lo g → Pace lo h → Same C D 1 t u → Same C D lo (at g a m t) (at h a m u)
  left_strays : {lo g h : ℕ} (a : ℕ) (m : Machine) (u : Trail) → Pace lo g → Pace lo h → C a ≡ false → D a ≡ true
      → Same C D lo (at g a m (shut (ending 6 a))) (at h a m u)
  right_strays : {lo g h : ℕ} (a : ℕ) (m : Machine) (t : Trail) → Pace lo g → Pace lo h → C a ≡ true → D a ≡ false
      → Same C D lo (at g a m t) (at h a m (shut (ending 6 a)))
  both_stray : {lo g h : ℕ} (a : ℕ) (m : Machine) → Pace lo g → Pace lo h → C a ≡ false → D a ≡ false
      → Same C D lo (at g a m (shut (ending 6 a))) (at h a m (shut (ending 6 a)))

-- ---------------------------------------------------------------- going by a held address a, whose word is o: b says whether the core goes on there
abbrev Behind : Option ℕ → Bool → ℕ → Trail → Type 0
Behind none b a t = t ≡ shut (ending 2 a)
Behind (some w) true a t = Unit {0}
Behind (some w) false a t = t ≡ shut (ending 6 a)

-- the trail has a's entry, if the cut leaves room for it
abbrev Enters : ℕ → ℕ → ℕ → Machine → Option ℕ → Bool → Trail → Type 0
Enters zero i a m o b t = t ≡ cut
Enters (suc k) i a m o b t = (rest : Trail) × ((t ≡ at i a m rest) × Behind o b a rest)

module _ (image : List ℕ) (base db : ℕ) {S : Type 0} {c : Core S} (F : Follower image base db c) where
  enters : (k f i a : ℕ) (m : Machine) (o : Option ℕ) (b : Bool) → word_in image base a ≡ o → F.goes a ≡ b → 2 * k + 1 ≤ f → a % 4 ≡ 0
      → Enters k i a (shown_of m) o b
      (after c f k i (pick b (onward (F.to (plain a) a m)) (lands a (shown_of m) (lost (in_image base (length image) a) a))))
  unfolding lost
  enters zero f i a m o false e q l al = refl
  enters (suc k) f i a m none false e q l al = (shut (ending 2 a), (rw (inside_word image base a, e), refl))
  enters (suc k) f i a m (some w) false e q l al = (shut (ending 6 a), (rw (inside_word image base a, e), refl))
  enters zero zero i a m o true e q l al = absurd (omega arith)
  enters zero (suc f) i a m o true e q l al = rw (F.marks_on a m q)
  enters (suc k) zero i a m o true e q l al = absurd (omega arith)
  enters (suc k) (suc zero) i a m o true e q l al = absurd (omega arith)
  enters (suc k) (suc (suc f)) i a m none true e q l al =
      let r = hopped c F.over f k i a (F.to (plain a) a m) (ends (ending 2 a)) (F.marks_on a m q) (F.ends_on a m q al e) in
      (shut (ending 2 a), (r.eq ∙ ap (λ (z : Machine). at i a (shown_of z) (shut (ending 2 a))) (F.has (plain a) a m), refl))
  enters (suc k) (suc (suc f)) i a m (some w) true e q l al =
      (trail c (suc f) k 1 (step c.next (live (F.to (plain a) a m))), (rw (F.marks_on a m q, F.has (plain a) a m), tt))

module _ (image : List ℕ) (base db : ℕ) {S T : Type 0} {c : Core S} {d : Core T} (F : Follower image base db c) (G : Follower image base db d)
    (meet : Meet F G) where
  abbrev Same' : ℕ → Trail → Trail → Type 0
  Same' = Same F.goes G.goes

  -- not both go on
  apart : (k i j a : ℕ) (m : Machine) (o : Option ℕ) (b e : Bool) → F.goes a ≡ b → G.goes a ≡ e → (b ≡ true → e ≡ true → ⊥) → Pace 1 i → Pace 1 j
      → (t u : Trail) → Enters k i a m o b t → Enters k j a m o e u → Same' 1 t u
  apart zero i j a m o b e x y n p q t u v w = rw (v, w) both_cut
  apart (suc k) i j a m none b e x y n p q t u v w =
      rw (v.1.0, w.1.0, v.1.1, w.1.1) (both_at a m p q (both_shut (ending 2 a) (omega arith)))
  apart (suc k) i j a m (some z) true true x y n p q t u v w = absurd (n refl refl)
  apart (suc k) i j a m (some z) true false x y n p q t u v w = rw (v.1.0, w.1.0, w.1.1) (right_strays a m v.0 p q x y)
  apart (suc k) i j a m (some z) false true x y n p q t u v w = rw (v.1.0, w.1.0, v.1.1) (left_strays a m w.0 p q x y)
  apart (suc k) i j a m (some z) false false x y n p q t u v w = rw (v.1.0, w.1.0, v.1.1, w.1.1) (both_stray a m p q x y)

  abbrev Goal : ℕ → Type 0
  Goal k = (f g i j : ℕ) → 2 * k + 1 ≤ f → 2 * k + 1 ≤ g → (lo : ℕ) → Pace lo i → Pace lo j → (pl : Place) (h : ℕ) (m : Machine)
      → member F.ps pl ≡ true → member G.ps pl ≡ true → h % 4 ≡ 0 → Same' lo (trail c f k i (live (F.to pl h m))) (trail d g k j (live (G.to pl h m)))

  onwards : (k f g i j : ℕ) → Goal k → 2 * k + 1 ≤ f → 2 * k + 1 ≤ g → Pace 1 i → Pace 1 j → (o : Out) → OutOk image base db F.ps o → OutOk image base db G.ps o
      → Same' 1 (after c f k i (left_by image base db F.to F.goes o)) (after d g k j (left_by image base db G.to G.goes o))
  onwards k f g i j ih lf lg p q (on pl h m) x y = ih f g i j lf lg 1 p q pl h m x.0 y.0 x.1
  onwards k f g i j ih lf lg p q (over e) x y = both_shut e x
  onwards k f g i j ih lf lg p q (by a m) x y = split (F.goes a) (G.goes a) refl refl
    where
      L : Bool → Trail
      L b = after c f k i (pick b (onward (F.to (plain a) a m)) (lands a (shown_of m) (lost (in_image base (length image) a) a)))

      R : Bool → Trail
      R b = after d g k j (pick b (onward (G.to (plain a) a m)) (lands a (shown_of m) (lost (in_image base (length image) a) a)))

      parted : (b e : Bool) → F.goes a ≡ b → G.goes a ≡ e → (b ≡ true → e ≡ true → ⊥) → Same' 1 (L b) (R e)
      parted b e u v n =
          apart k i j a (shown_of m) (word_in image base a) b e u v n p q (L b) (R e)
          (enters image base db F k f i a m (word_in image base a) b refl u lf x)
          (enters image base db G k g j a m (word_in image base a) e refl v lg x)

      split : (b e : Bool) → F.goes a ≡ b → G.goes a ≡ e → Same' 1 (L b) (R e)
      split true true u v = ih f g i j lf lg 1 p q (plain a) a m (meet a u v).0 (meet a u v).1 x
      split true false u v = parted true false u v (λ s t. false≢true t)
      split false e u v = parted false e u v (λ s t. false≢true s)

  joins : (k f g i j : ℕ) (pl : Place) (h : ℕ) (m : Machine) → Goal k → 2 * k + 1 ≤ f → 2 * k + 1 ≤ g → (lo : ℕ) → Pace lo i → Pace lo j
      → OutOk image base db F.ps (out image base db pl h m) → OutOk image base db G.ps (out image base db pl h m)
      → Hopped c F.over f k i (place_at pl) (F.to pl h m) (left_by image base db F.to F.goes (out image base db pl h m))
      → Hopped d G.over g k j (place_at pl) (G.to pl h m) (left_by image base db G.to G.goes (out image base db pl h m))
      → Same' lo (trail c (suc (suc f)) (suc k) i (live (F.to pl h m))) (trail d (suc (suc g)) (suc k) j (live (G.to pl h m)))
  joins k f g i j pl h m ih lf lg lo p q x y a b =
      subst₂ (λ (t u : Trail). Same' lo t u) (sym a.eq) (sym b.eq)
      (rw (F.has pl h m, G.has pl h m) (both_at (place_at pl) (shown_of m) p q
      (onwards k a.fuel b.fuel a.steps b.steps ih (omega (arith, a.enough)) (omega (arith, b.enough)) a.pace b.pace
      (out image base db pl h m) x y)))

  pub sim : (k : ℕ) → Goal k
  sim zero zero g i j lf lg lo p q pl h m x y al = absurd (omega arith)
  sim zero (suc f) zero i j lf lg lo p q pl h m x y al = absurd (omega arith)
  sim zero (suc f) (suc g) i j lf lg lo p q pl h m x y al = rw (F.marks pl h m x, G.marks pl h m y) both_cut
  sim (suc k) zero g i j lf lg lo p q pl h m x y al = absurd (omega arith)
  sim (suc k) (suc zero) g i j lf lg lo p q pl h m x y al = absurd (omega arith)
  sim (suc k) (suc (suc f)) zero i j lf lg lo p q pl h m x y al = absurd (omega arith)
  sim (suc k) (suc (suc f)) (suc zero) i j lf lg lo p q pl h m x y al = absurd (omega arith)
  sim (suc k) (suc (suc f)) (suc (suc g)) i j lf lg lo p q pl h m x y al =
      joins k f g i j pl h m (sim k) (omega arith) (omega arith) lo p q
      (out_ok image base db F.ps pl h m al (F.closed.ok pl x) (F.closed.closed pl x))
      (out_ok image base db G.ps pl h m al (G.closed.ok pl y) (G.closed.closed pl y))
      (hopped c F.over f k i (place_at pl) (F.to pl h m) _ (F.marks pl h m x) (F.hops pl h m x))
      (hopped d G.over g k j (place_at pl) (G.to pl h m) _ (G.marks pl h m y) (G.hops pl h m y))
