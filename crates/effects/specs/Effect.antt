-- The effect of a word that does not transfer control, on registers, Y, windows, flags and data.
use Rattle.std.specs.Prelude.{ℕ, ◌*◌, ◌%◌, ◌^◌, List}
use Rattle.std.specs.Int.Bits.{bit_xor}
use Rattle.numbers.specs.Choice.{pick}
use Rattle.words.specs.Conditions.{holds_of}
use Rattle.words.specs.declared.Operand.{Operand}
use Rattle.words.specs.declared.Instruction.{Instruction}
use Rattle.words.specs.declared.Instruction.TheVariants.{Illegal, Call, Sethi, Bicc, Arithmetic, Jmpl, Ticc, Load, Store, Shift, Rdy, Wry, Window}
use Rattle.machine.specs.Ends.{ending, Next, go, halt, within}
use Rattle.machine.specs.Registers.{register_of, put_register, y_of, put_y, value_of, address_of}
use Rattle.arithmetic.specs.Arithmetic.{After, shift_of, arithmetic_of}
use Rattle.effects.specs.DataArea.{width_of, sign_of, load_of, store_of}
use Rattle.windows.specs.Windows.{window_of}

-- what a trail's entry shows beside the address
pub record Machine : Type 0 where
  -- the file: registers 0 to 31, Y, the nesting and the windows
  pub registers : List ℕ
  -- 8N + 4Z + 2V + C
  pub flags : ℕ
  pub area : List ℕ

abbrev pub machine : List ℕ → ℕ → List ℕ → Machine
machine rs f a = record { registers = rs; flags = f; area = a }

-- "1 Ticc taken, with (rs1 + operand) modulo 128": nothing but how the run goes on
unfoldable pub trap_of : ℕ → List ℕ → ℕ → ℕ → Operand → Next (Unit {0})
trap_of f rs cond rs1 x = pick (holds_of cond f) (halt (ending 1 (address_of rs rs1 x % 128))) (go tt)

-- the machine with other registers, with another area, with registers and flags
abbrev pub with_registers : Machine → List ℕ → Machine
with_registers m rs = machine rs m.flags m.area

abbrev pub with_area : Machine → List ℕ → Machine
with_area m a = machine m.registers m.flags a

abbrev pub with_after : Machine → After → Machine
with_after m k = machine k.registers k.flags m.area

-- call, Bicc and jmpl act on control alone, and are not done here; nor is an illegal word, of which nobody asks: the old core has ended with
-- 3 before it (`executes`), and a kind 1 with such a word is a bad record (`fit`)
unfoldable pub effect_of : ℕ → Instruction → Machine → Next Machine
effect_of db Illegal m = go m
effect_of db (Call disp) m = go m
effect_of db (Bicc cond annul disp) m = go m
effect_of db (Jmpl rd rs1 x) m = go m
effect_of db (Sethi rd imm) m = go (with_registers m (put_register m.registers rd (imm * 2 ^ 10 % 2 ^ 32)))
effect_of db (Arithmetic o cc rd rs1 x) m = go (with_after m (arithmetic_of m.flags m.registers o cc rd rs1 x))
effect_of db (Ticc cond rs1 x) m = within (λ u. m) (trap_of m.flags m.registers cond rs1 x)
effect_of db (Load o rd rs1 x) m =
    within (with_registers m) (load_of (width_of o) (sign_of o) db m.area rd (address_of m.registers rs1 x) m.registers)
effect_of db (Store w rd rs1 x) m =
    within (with_area m) (store_of w db (register_of m.registers rd) (address_of m.registers rs1 x) m.area)
effect_of db (Shift o rd rs1 x) m = go (with_registers m (put_register m.registers rd (shift_of o (register_of m.registers rs1) (value_of m.registers x))))
effect_of db (Rdy rd) m = go (with_registers m (put_register m.registers rd (y_of m.registers)))
-- 02, N4: "Wry writes rs1 xor operand without delay"
effect_of db (Wry s) m = go (with_registers m (put_y m.registers (bit_xor (register_of m.registers s.rs1) (value_of m.registers s.operand))))
effect_of db (Window o rd rs1 x) m = within (with_registers m) (window_of o rd (address_of m.registers rs1 x) m.registers)
