-- A core whose state is held as bytes, of either core: what a call leaves is read back by the next one. So runs add up, and a call of
-- count 1 is a step.
use Prim.Native.Nat.{ℕ, zero, suc, ◌+◌}
use native.Mathlib.Omega.{arith}
use mathlib.Core.Path.{◌≡◌, refl}
use mathlib.Core.List.{List, ◌++◌}
use lib.ListN.{length}
use Rattle.machine.specs.Ends.{Ending, ending, Next, go, halt, State, state, live, settle}
use Rattle.effects.proofs.Bounds.{Leaves}
use Rattle.model.specs.Run.{step, run, data_of, beyond}
use Rattle.model.specs.StateBytes.{After}
use Rattle.model.specs.Interface.{Bytes, bytes, answered, called}
use Rattle.model.proofs.Bounds.{SoundState, run_sound}
use Rattle.model.proofs.RoundTrip.{data_back}
use Rattle.model.proofs.Related.{Alike}

-- after: what a run that left a state leaves in the areas lent to it; decode: the state of bytes; P n: sound, with n bytes of data
pub record Coded {S : Type 0} (next : S → Next S) (after : State S → List ℕ → After) (decode : List ℕ → List ℕ → State S) (areaIn : S → List ℕ)
    (P : ℕ → S → Type 0) : Type 0 where
  pub leaves : (n : ℕ) (s : S) → P n s → Leaves (P n) (next s)
  pub ended : (s : S) (e : Ending) (rest : List ℕ) → (after (state s e) rest).ended ≡ e
  pub area : (s : S) (e : Ending) (rest : List ℕ) → (after (state s e) rest).area ≡ areaIn s ++ rest
  pub sized : (n : ℕ) (s : S) → P n s → length (areaIn s) ≡ n
  pub back : (n : ℕ) (s : S) (e : Ending) (rest : List ℕ) → SoundState (P n) (state s e) → decode (after (state s e) rest).state (areaIn s) ≡ state s e

run_add : {S : Type 0} (next : S → Next S) (m n : ℕ) (x : State S) → run next n (run next m x) ≡ run next (m + n) x
unfolding run
run_add next zero n x = let e : 0 + n ≡ n = omega arith in rw e
run_add next (suc m) n x = let e : suc m + n ≡ suc (m + n) = omega arith in rw e (run_add next m n (step next x))

module _ {S : Type 0} (next : S → Next S) (after : State S → List ℕ → After) (decode : List ℕ → List ℕ → State S) (areaIn : S → List ℕ)
    (P : ℕ → S → Type 0) (C : Coded next after decode areaIn P) where
  -- what a call with this count leaves
  abbrev pub runs : ℕ → List ℕ → List ℕ → After
  runs count bs l = after (run next count (decode bs (data_of l))) (beyond l)

  sound_part : (n : ℕ) (s : S) (e : Ending) → SoundState (P n) (state s e) → P n s
  sound_part n s (ending zero v) h = h.0
  sound_part n s (ending (suc k) v) h = h.0

  -- what is left is read back, the state and the bytes that are no part of the data
  read_back : (l : List ℕ) (x : State S) → SoundState (P (length (data_of l))) x
      → (decode (after x (beyond l)).state (data_of (after x (beyond l)).area) ≡ x) × (beyond (after x (beyond l)).area ≡ beyond l)
  read_back l (state s e) h =
      let n = length (data_of l) in
      let d = data_back l (areaIn s) (C.sized n s (sound_part n s e h)) in
      (rw (C.area s e (beyond l), d.0) (C.back n s e (beyond l) h), rw (C.area s e (beyond l)) d.1)

  -- a run of m and then one of n is a run of m + n
  pub runs_add : (m n : ℕ) (bs l : List ℕ) → SoundState (P (length (data_of l))) (decode bs (data_of l))
      → runs n (runs m bs l).state (runs m bs l).area ≡ runs (m + n) bs l
  runs_add m n bs l h =
      let x = run next m (decode bs (data_of l)) in
      let b = read_back l x (run_sound (P (length (data_of l))) next (C.leaves (length (data_of l))) m (decode bs (data_of l)) h) in
      rw (b.0, b.1, run_add next m n (decode bs (data_of l)))

  -- bytes that hold a state that is going, over an area whose bytes past the data are those of l
  abbrev pub Holding : List ℕ → Bytes → S → Type 0
  Holding l b s = (b ≡ bytes (after (live s) (beyond l)).state (after (live s) (beyond l)).area) × P (length (data_of l)) s

  step_called : (l : List ℕ) (s : S) (x : Next S) → P (length (data_of l)) s → Leaves (P (length (data_of l))) x
      → Alike (Holding l) (called (after (settle s x) (beyond l))) x
  unfolding settle called answered
  step_called l s (go t) p y = rw (C.ended t (ending 0 0) (beyond l)) (refl, y)
  step_called l s (halt (ending zero v)) p y = absurd (omega arith)
  step_called l s (halt (ending (suc k) v)) p y = rw (C.ended s (ending (suc k) v) (beyond l))

  pub called_step : (l : List ℕ) (b : Bytes) (s : S) → Holding l b s → Alike (Holding l) (called (runs 1 b.state b.area)) (next s)
  unfolding run step
  called_step l b s h =
      let r = read_back l (live s) (h.1, refl) in
      rw (h.0, r.0, r.1) (step_called l s (next s) h.1 (C.leaves (length (data_of l)) s h.1))
