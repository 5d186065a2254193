-- Register 0 is 0 in every state of a run, of either core: a sound state has it so, and a run keeps its state sound.
use Prim.Native.Nat.{ℕ, zero, suc}
use lib.ListN.{length}
use Rattle.machine.specs.Ends.{ending, Next, State, state}
use Rattle.machine.specs.Registers.{register_of}
use Rattle.effects.specs.Effect.{Machine}
use Rattle.effects.proofs.Bounds.{Sound, Leaves}
use Rattle.model.specs.Run.{run, data_of}
use Rattle.model.specs.OldCore.{Old, old, old_machine, old_next}
use Rattle.model.specs.NewCore.{New, new, new_machine, new_next}
use Rattle.model.specs.StateBytes.{old_in, new_in, ReadsZero, RegisterZero}
use Rattle.model.proofs.Bounds.{SoundState, run_sound, SoundOld, old_leaves, SoundNew, new_leaves}
use Rattle.model.proofs.Calls.{old_sound, new_sound}

module _ {S : Type 0} (machine_of : S → Machine) (n : ℕ) (P : S → Type 0) (sound : (s : S) → P s → Sound n (machine_of s)) where
  reads_zero : (x : State S) → SoundState P x → ReadsZero machine_of x
  unfolding register_of
  reads_zero (state s (ending zero v)) h = (sound s h.0).zero
  reads_zero (state s (ending (suc k) v)) h = (sound s h.0).zero

  zero_stays : (next : S → Next S) → ((s : S) → P s → Leaves P (next s)) → (count : ℕ) (x : State S) → SoundState P x
      → ReadsZero machine_of (run next count x)
  zero_stays next leaves count x h = reads_zero (run next count x) (run_sound P next leaves count x h)

old_machine_lem : (n : ℕ) (s : Old) → SoundOld n s → Sound n (old_machine s)
old_machine_lem n (old m pc npc annul) h = h.0

new_machine_lem : (n : ℕ) (s : New) → SoundNew n s → Sound n (new_machine s)
new_machine_lem n (new m r h) g = g.0

pub register_zero : RegisterZero
unfolding RegisterZero
register_zero bytes area b d count =
    let n = length (data_of area) in (
      λ image base db.
          zero_stays old_machine n (SoundOld n) (old_machine_lem n) (old_next image base db) (old_leaves n image base db) count (old_in bytes (data_of area))
          (old_sound bytes area b d),
      λ records places base size db br bp.
          zero_stays new_machine n (SoundNew n) (new_machine_lem n) (new_next records places base size db) (new_leaves n records places base size db br bp) count
          (new_in bytes (data_of area)) (new_sound bytes area b d),
    )
