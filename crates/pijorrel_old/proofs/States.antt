-- Laws of states and their bytes.
use Rattle.machine.specs.Ends.{standing_of, Ending, State, ending, state}
use Rattle.effects.specs.Effect.{Machine}
use Rattle.states.specs.declared.OldControl.{OldControl}
use Rattle.states.specs.declared.Standing.{Standing}
use Rattle.model.specs.Run.{data_of, beyond, lent, Lent}
use Rattle.model.specs.OldCore.{Old, old}
use Rattle.states.specs.OldState.{old_state}
use Rattle.model.specs.StateBytes.{old_bytes, after, old_after}
use lib.ListN.{take-append-drop}
use mathlib.Core.List.{List}
use mathlib.Core.Bool.{Bool}
use mathlib.Core.Path.{◌≡◌, ap}
use Prim.Native.Nat.{ℕ}

-- registers, flags and data of equal states
pub same_machine : {m m' : Machine} {pc pc' npc npc' : ℕ} {a a' : Bool} {e e' : Ending}
    → state (old m pc npc a) e ≡ state (old m' pc' npc' a') e' → m ≡ m'
same_machine h = cc

-- what a call answers and leaves, from what the run and the encoding say
pub after_run : (rs : List ℕ) (c : Standing OldControl) (area bytes rest : List ℕ) (x : State Old) (n v : ℕ) → ending n v ≡ standing_of c.end
    → bytes ≡ old_bytes (old_state rs c (data_of area)) → lent (old_state rs c (data_of area)) (beyond area) ≡ lent x rest
    → after n v bytes area ≡ old_after x rest
unfolding old_after
after_run rs c area bytes rest x n v e b h =
    let hx : old_state rs c (data_of area) ≡ x = ap (λ (l : Lent Old). l.core) h in
    let hr : beyond area ≡ rest = ap (λ (l : Lent Old). l.rest) h in
    rw (← hx, ← hr, e, b, take-append-drop 65536 area)
