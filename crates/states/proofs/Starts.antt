-- The constructors' values are what all bytes 0 stand for: "The start values are all registers 0 and all flags clear." (02, N4: Y, "0 among the start values"; N11: "0 throughout")
use mathlib.Core.Path.{◌≡◌, refl}
use mathlib.Core.List.{List}
use Prim.Native.Nat.{ℕ}
use lib.ListN.{replicate}
use Rattle.numbers.specs.Number.{number_at, numbers_of, up_to}
use Rattle.machine.specs.Ends.{standing_of, ending_from}
use Rattle.effects.proofs.Opened.{windows_open}
use Rattle.model.specs.Run.{zeroed}
use Rattle.model.specs.StateBytes.{is_set, old_size, new_size, file_in, machine_in, old_in, new_in}
use Rattle.states.specs.OldState.{start_values, old_state}
use Rattle.states.specs.NewState.{new_start_values, new_state}

pub all_zero_starts : (area : List ℕ) → (old_in (replicate old_size 0) area ≡ old_state start_values.registers start_values.standing area)
    × (new_in (replicate new_size 0) area ≡ new_state new_start_values.registers new_start_values.standing area)
unfolding old_in new_in file_in machine_in zeroed numbers_of up_to number_at ending_from standing_of is_set start_values new_start_values windows_open
all_zero_starts area = (refl, refl)
