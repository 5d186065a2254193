-- Laws of states and their bytes.
use Rattle.machine.specs.Ends.{standing_of, Ending, State, ending, state}
use Rattle.effects.specs.Effect.{Machine}
use Rattle.states.specs.declared.NewControl.{NewControl}
use Rattle.states.specs.declared.Standing.{Standing}
use Rattle.model.specs.Run.{data_of, beyond, lent, Lent}
use Rattle.model.specs.NewCore.{New, new}
use Rattle.model.specs.StateBytes.{new_bytes, after, new_after}
use Rattle.states.specs.NewState.{new_state}
use lib.ListN.{take-append-drop}
use mathlib.Core.List.{List}
use mathlib.Core.Path.{◌≡◌, ap}
use Prim.Native.Nat.{ℕ}

-- registers, flags and data of equal states
pub same_machine : {m m' : Machine} {r r' h h' : ℕ} {e e' : Ending} → state (new m r h) e ≡ state (new m' r' h') e' → m ≡ m'
same_machine h = cc

-- what a call answers and leaves, from what the run and the encoding say
pub after_run : (rs : List ℕ) (c : Standing NewControl) (area bytes rest : List ℕ) (x : State New) (n v : ℕ) → ending n v ≡ standing_of c.end
    → bytes ≡ new_bytes (new_state rs c (data_of area)) → lent (new_state rs c (data_of area)) (beyond area) ≡ lent x rest
    → after n v bytes area ≡ new_after x rest
unfolding new_after
after_run rs c area bytes rest x n v e b h =
    let hx : new_state rs c (data_of area) ≡ x = ap (λ (l : Lent New). l.core) h in
    let hr : beyond area ≡ rest = ap (λ (l : Lent New). l.rest) h in
    rw (← hx, ← hr, e, b, take-append-drop 65536 area)
