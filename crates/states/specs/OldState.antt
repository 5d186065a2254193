-- The old core's state as a value of the code, over a lent area.
use Rattle.std.specs.Prelude.{ℕ, List, replicate, None}
use Rattle.machine.specs.Ends.{State, left}
use Rattle.machine.specs.Registers.{file_size}
use Rattle.states.specs.declared.OldControl.{OldControl}
use Rattle.states.specs.declared.Standing.{Standing}
use Rattle.states.specs.declared.OldCore.{OldCore}
use Rattle.model.specs.OldCore.{Old, old}
use Rattle.model.specs.StateBytes.{is_set}

-- "The start values are all registers 0 and all flags clear." 02, N4: "The state and each trail entry gain Y, 0 among the start values"; N11: "the
-- start values are 0 throughout"
unfoldable pub start_values : OldCore
start_values =
    record {
      registers = replicate file_size 0;
      standing =
          record {
            control = record { flags = record { nzvc = 0 }; pc = record { 0 = 0 }; npc = record { 0 = 0 }; annul = 0 };
            end = None;
          };
    }

-- registers, control and data as one state
abbrev pub old_of : List ℕ → OldControl → List ℕ → Old
old_of rs c a = old (record { registers = rs; flags = c.flags.nzvc; area = a }) c.pc.0 c.npc.0 (is_set c.annul)

-- the same with how the run stands
abbrev pub old_state : List ℕ → Standing OldControl → List ℕ → State Old
old_state rs s a = left (old_of rs s.control a) s.end
