-- Two trails, each from its own start: what `Same` says of entries, closes and paces.
use Prim.Native.Nat.{ℕ, zero, suc, ◌+◌, ◌*◌, ◌≤◌}
use native.Mathlib.Omega.{arith}
use mathlib.Core.Path.{◌≡◌, refl, sym, ap, ◌∙◌}
use mathlib.Core.Bool.{Bool, true, false, false≢true}
use mathlib.Core.List.{List, [], ◌∷◌}
use mathlib.Core.Option.{Option, none, some}
use lib.ListN.{length, take}
use Rattle.numbers.specs.Number.{plus}
use Rattle.machine.specs.Ends.{Ending, ending, State, state, live, settle}
use Rattle.effects.specs.Effect.{Machine}
use Rattle.model.specs.Run.{step}
use Rattle.model.specs.OldCore.{Old, old, follows, old_next}
use Rattle.model.specs.Places.{plain, place_at, member}
use Rattle.model.specs.Trails.{shown_of, Core, Trail, cut, spent, shut, at, trail, Entry, entry, entries, closing, opening, last_at, later, gaps, OneOrTwo, Unspent}
use Rattle.model.specs.Cores.{begun_with, old_mark, old_over}
use Rattle.model.proofs.Follows.{Follower, Meet}
use Rattle.model.proofs.Simulation.{Same, both_cut, both_shut, both_at, left_strays, right_strays, both_stray, sim}

-- an end's number, and the number beside it
abbrev pub number : Ending → ℕ
number (ending n v) = n

abbrev pub value : Ending → ℕ
value (ending n v) = v

-- ---------------------------------------------------------------- where two trails are the same
-- equal, or one of them strayed, and ended with 6 at an address at which the other goes on: then they are equal as far as it goes
pub data Verdict (C D : ℕ → Bool) (t u : Trail) : Type 0 where
  alike : entries t ≡ entries u → closing t ≡ closing u → Verdict C D t u
  left_ended : (a : ℕ) → C a ≡ false → D a ≡ true → closing t ≡ ending 6 a → take (length (entries t)) (entries u) ≡ entries t → Verdict C D t u
  right_ended : (a : ℕ) → C a ≡ true → D a ≡ false → closing u ≡ ending 6 a → take (length (entries u)) (entries t) ≡ entries u → Verdict C D t u

module _ (C D : ℕ → Bool) where
  further : (g h a : ℕ) (m : Machine) (t u : Trail) → Verdict C D t u → Verdict C D (at g a m t) (at h a m u)
  further g h a m t u (alike p q) = alike (ap {B = List Entry} (λ l. entry a m ∷ l) p) q
  further g h a m t u (left_ended b x y e p) = left_ended b x y e (ap {B = List Entry} (λ l. entry a m ∷ l) p)
  further g h a m t u (right_ended b x y e p) = right_ended b x y e (ap {B = List Entry} (λ l. entry a m ∷ l) p)

  pub verdict : {lo : ℕ} (t u : Trail) → Same C D lo t u → Verdict C D t u
  verdict t u both_cut = alike refl refl
  verdict t u (both_shut e y) = alike refl refl
  verdict t u (both_at {g = g} {h = h} a m {t = x} {u = y} p q s) = further g h a m x y (verdict x y s)
  verdict t u (left_strays a m x p q y z) = left_ended a y z refl refl
  verdict t u (right_strays a m x p q y z) = right_ended a y z refl refl
  verdict t u (both_stray a m p q y z) = alike refl refl

  -- -------------------------------------------------------------- where the first never strays: what the second's trail is like
  module _ (never : (a : ℕ) → C a ≡ true) where
    goes_on : {A : Type 0} (a : ℕ) → C a ≡ false → A
    goes_on a e = absurd (false≢true (sym e ∙ never a))

    pub last_six : {lo : ℕ} (z : ℕ) (t u : Trail) → Same C D lo t u → number (closing u) ≡ 6 → last_at (entries u) z ≡ value (closing u)
    last_six z t u both_cut h = absurd (omega arith)
    last_six z t u (both_shut (ending c v) y) h = absurd (omega arith)
    last_six z t u (both_at a m {t = x} {u = y} p q s) h = last_six a x y s h
    last_six z t u (left_strays a m x p q e f) h = goes_on a e
    last_six z t u (right_strays a m x p q e f) h = refl
    last_six z t u (both_stray a m p q e f) h = refl

    later_new : (t u : Trail) → Same C D 1 t u → OneOrTwo (later u)
    later_new t u both_cut = tt
    later_new t u (both_shut e y) = tt
    later_new t u (both_at a m {t = x} {u = y} p q s) = (q, later_new x y s)
    later_new t u (left_strays a m x p q e f) = goes_on a e
    later_new t u (right_strays a m x p q e f) = (q, tt)
    later_new t u (both_stray a m p q e f) = (q, tt)

    pub gaps_new : (t u : Trail) → Same C D 0 t u → OneOrTwo (gaps u)
    gaps_new t u both_cut = tt
    gaps_new t u (both_shut e y) = tt
    gaps_new t u (both_at a m {t = x} {u = y} p q s) = later_new x y s
    gaps_new t u (left_strays a m x p q e f) = goes_on a e
    gaps_new t u (right_strays a m x p q e f) = tt
    gaps_new t u (both_stray a m p q e f) = tt

    pub new_unspent : {lo : ℕ} (t u : Trail) → Same C D lo t u → Unspent u
    new_unspent t u both_cut = tt
    new_unspent t u (both_shut e y) = tt
    new_unspent t u (both_at a m {t = x} {u = y} p q s) = new_unspent x y s
    new_unspent t u (left_strays a m x p q e f) = goes_on a e
    new_unspent t u (right_strays a m x p q e f) = tt
    new_unspent t u (both_stray a m p q e f) = tt

-- ---------------------------------------------------------------- first entries
abbrev head_of : List Entry → Option Entry
head_of [] = none
head_of (x ∷ es) = some x

head_entries : (t : Trail) → head_of (entries t) ≡ opening t
head_entries cut = refl
head_entries spent = refl
head_entries (shut e) = refl
head_entries (at g a m t) = refl

pub by_entries : (t u : Trail) → entries t ≡ entries u → opening t ≡ opening u
by_entries t u e = sym (head_entries t) ∙ ap head_of e ∙ head_entries u

head_take : (n : ℕ) (es : List Entry) → head_of (take (suc n) es) ≡ head_of es
head_take n [] = refl
head_take n (x ∷ es) = refl

pub by_take : (t u : Trail) (x : Entry) → opening u ≡ some x → take (length (entries u)) (entries t) ≡ entries u → opening t ≡ opening u
by_take t cut x o e = let z : ◌≡◌ {A = ℕ} 0 1 = cc in absurd (omega arith)
by_take t spent x o e = let z : ◌≡◌ {A = ℕ} 0 1 = cc in absurd (omega arith)
by_take t (shut y) x o e = let z : ◌≡◌ {A = ℕ} 0 1 = cc in absurd (omega arith)
by_take t (at g a m u) x o e = sym (head_entries t) ∙ sym (head_take (length (entries u)) (entries t)) ∙ ap head_of e ∙ head_entries (at g a m u)

-- ---------------------------------------------------------------- the old core by itself: its pace, and that its steps are enough
module _ (image : List ℕ) (base db : ℕ) where
  abbrev O : ℕ → ℕ → ℕ → State Old → Trail
  O = trail (old_over image base db)

  abbrev next : Old → State Old
  next s = step (old_next image base db) (live s)

  -- an annulled word stands only right after an entry
  abbrev Due : ℕ → State Old → Type 0
  Due g (state (old m p n true) e) = g ≡ 1
  Due g (state (old m p n false) e) = (1 ≤ g) × (g ≤ 2)

  due_one : (x : State Old) → Due 1 x
  due_one (state (old m p n true) e) = refl
  due_one (state (old m p n false) e) = omega arith

  later_old : (f k g : ℕ) (x : State Old) → Due g x → OneOrTwo (later (O f k g x))
  unfolding old_mark step settle old_next follows
  later_old zero k g (state s (ending zero v)) d = tt
  later_old zero k g (state s (ending (suc c) v)) d = tt
  later_old (suc f) k g (state s (ending (suc c) v)) d = tt
  later_old (suc f) k g (state (old m p n true) (ending zero v)) d = later_old f k (suc g) (live (old m n (plus n 4) false)) (omega arith)
  later_old (suc f) zero g (state (old m p n false) (ending zero v)) d = tt
  later_old (suc f) (suc k) g (state (old m p n false) (ending zero v)) d =
      (d, later_old f k 1 (next (old m p n false)) (due_one (next (old m p n false))))

  abbrev Enough : ℕ → ℕ → State Old → Type 0
  Enough f k (state (old m p n true) e) = 2 * k + 2 ≤ f
  Enough f k (state (old m p n false) e) = 2 * k + 1 ≤ f

  enough_any : (f k : ℕ) (x : State Old) → 2 * k + 2 ≤ f → Enough f k x
  enough_any f k (state (old m p n true) e) l = l
  enough_any f k (state (old m p n false) e) l = omega arith

  pub old_unspent : (f k g : ℕ) (x : State Old) → Enough f k x → Unspent (O f k g x)
  unfolding old_mark step settle old_next follows
  old_unspent zero k g (state (old m p n true) (ending zero v)) d = absurd (omega arith)
  old_unspent zero k g (state (old m p n false) (ending zero v)) d = absurd (omega arith)
  old_unspent zero k g (state s (ending (suc c) v)) d = tt
  old_unspent (suc f) k g (state s (ending (suc c) v)) d = tt
  old_unspent (suc f) k g (state (old m p n true) (ending zero v)) d = old_unspent f k (suc g) (live (old m n (plus n 4) false)) (omega arith)
  old_unspent (suc f) zero g (state (old m p n false) (ending zero v)) d = tt
  old_unspent (suc f) (suc k) g (state (old m p n false) (ending zero v)) d =
      old_unspent f k 1 (next (old m p n false)) (enough_any f k (next (old m p n false)) (omega arith))

  -- the old trail begun at a, by f steps
  abbrev pub old_trail : ℕ → ℕ → ℕ → Machine → Trail
  old_trail f k a m = O f k 0 (live (old m a (plus a 4) false))

  pub gaps_old : (f k a : ℕ) (m : Machine) → 1 ≤ f → 1 ≤ k → OneOrTwo (gaps (old_trail f k a m))
  unfolding old_mark
  gaps_old zero k a m lf lk = absurd (omega arith)
  gaps_old (suc f) zero a m lf lk = absurd (omega arith)
  gaps_old (suc f) (suc k) a m lf lk = later_old f k 1 (next (old m a (plus a 4) false)) (due_one (next (old m a (plus a 4) false)))

-- ---------------------------------------------------------------- two cores that follow places, begun at plain places
module _ (image : List ℕ) (base db : ℕ) {S : Type 0} {c : Core S} (F : Follower image base db c) where
  -- the trail begun at the plain place of a, by f steps
  abbrev pub trail_from : ℕ → ℕ → ℕ → Machine → Trail
  trail_from f k a m = trail c f k 0 (live (F.to (plain a) 0 m))

  pub first_entry : (f k a : ℕ) (m : Machine) → 1 ≤ f → 1 ≤ k → member F.ps (plain a) ≡ true → (rest : Trail) × (trail_from f k a m ≡ at 0 a (shown_of m) rest)
  unfolding place_at
  first_entry zero k a m lf lk h = absurd (omega arith)
  first_entry (suc f) zero a m lf lk h = absurd (omega arith)
  first_entry (suc f) (suc k) a m lf lk h =
      (trail c f k 1 (step c.next (live (F.to (plain a) 0 m))), rw (F.marks (plain a) 0 m h, F.has (plain a) 0 m))

module _ (image : List ℕ) (base db : ℕ) {S T : Type 0} {c : Core S} {d : Core T} (F : Follower image base db c) (G : Follower image base db d)
    (meet : Meet F G) where
  abbrev t : ℕ → ℕ → ℕ → Machine → Trail
  t = trail_from image base db F

  abbrev u : ℕ → ℕ → ℕ → Machine → Trail
  u = trail_from image base db G

  pub from_one : (f g k a : ℕ) (m : Machine) → 2 * k + 1 ≤ f → 2 * k + 1 ≤ g → member F.ps (plain a) ≡ true → member G.ps (plain a) ≡ true
      → Same F.goes G.goes 0 (t f k a m) (u g k a m)
  from_one f g k a m lf lg x y = sim image base db F G meet k f g 0 0 lf lg 0 (omega arith) (omega arith) (plain a) 0 m x y refl

  pub from_two : (f g k a b : ℕ) (m n : Machine) → 2 * k + 1 ≤ f → 2 * k + 1 ≤ g → 1 ≤ k → begun_with (shown_of m) ≡ m → begun_with (shown_of n) ≡ n
      → member F.ps (plain a) ≡ true → member G.ps (plain b) ≡ true → opening (t f k a m) ≡ opening (u g k b n)
      → Same F.goes G.goes 0 (t f k a m) (u g k b n)
  from_two f g k a b m n lf lg lk dm dn x y e =
      let z : some (entry a (shown_of m)) ≡ some (entry b (shown_of n)) =
      sym (ap opening (first_entry image base db F f k a m (omega arith) lk x).1) ∙ e ∙ ap opening (first_entry image base db G g k b n (omega arith) lk y).1 in
      let p : a ≡ b = cc in
      let r : shown_of m ≡ shown_of n = cc in
      let q : m ≡ n = sym dm ∙ ap begun_with r ∙ dn in
      rw (p, q) (from_one f g k b n lf lg (rw p at x) y)
