-- The new core's state as a value of the code.
use Rattle.std.specs.Prelude.{List, replicate, ℕ, None}
use Rattle.machine.specs.Ends.{State, left}
use Rattle.machine.specs.Registers.{file_size}
use Rattle.states.specs.declared.NewControl.{NewControl}
use Rattle.states.specs.declared.Standing.{Standing}
use Rattle.states.specs.declared.NewCore.{NewCore}
use Rattle.model.specs.NewCore.{New, new}

-- "The start values are all registers 0 and all flags clear." 02, N4: "The state and each trail entry gain Y, 0 among the start values"; N11: "the
-- start values are 0 throughout"
unfoldable pub new_start_values : NewCore
new_start_values =
    record {
      registers = replicate file_size 0;
      standing = record { control = record { flags = record { nzvc = 0 }; at = record { 0 = 0 }; held = record { 0 = 0 } }; end = None };
    }

-- registers, control and data as one state
abbrev pub new_of : List ℕ → NewControl → List ℕ → New
new_of rs c a = new (record { registers = rs; flags = c.flags.nzvc; area = a }) c.at.0 c.held.0

-- the same with how the run stands
abbrev pub new_state : List ℕ → Standing NewControl → List ℕ → State New
new_state rs s a = left (new_of rs s.control a) s.end
