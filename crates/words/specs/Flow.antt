-- What an instruction does to control, without its operands.
use Rattle.numbers.specs.Choice.{pick}
use Rattle.std.specs.Prelude.{ℕ, Bool, true, false, ◌&&◌, ◌||◌, eqb, leb, ltb}
use Rattle.words.specs.Reader.{set_from, register_strays}
use Rattle.words.specs.declared.Instruction.{Instruction}
use Rattle.words.specs.declared.Instruction.TheVariants.{Illegal, Call, Sethi, Bicc, Arithmetic, Jmpl, Ticc, Load, Store, Shift, Rdy, Wry, Window}
use Rattle.words.specs.declared.Flow.{Flow}
use Rattle.words.specs.declared.Flow.TheVariants.{Faults, Continues, Traps, Calls, Branches, Jumps}

-- a bit is set that is unused beside a register or, by op3, a shift's constant: the test of the reader of control before the formats part
unfoldable pub operand_strays : ℕ → ℕ → Bool
operand_strays op3 word = register_strays word || ((leb 37 op3 && ltb op3 40) && set_from 5 word)

unfoldable pub flow_of : Instruction → Flow
flow_of Illegal = Faults
flow_of (Call disp) = Calls disp
flow_of (Sethi rd imm) = Continues
flow_of (Bicc cond annul disp) = Branches cond annul disp
flow_of (Arithmetic o cc rd rs1 x) = Continues
flow_of (Jmpl rd rs1 x) = Jumps rd
flow_of (Ticc cond rs1 x) = pick (eqb cond 8) Traps Continues
flow_of (Load o rd rs1 x) = Continues
flow_of (Store w rd rs1 x) = Continues
flow_of (Shift o rd rs1 x) = Continues
flow_of (Rdy rd) = Continues
flow_of (Wry s) = Continues
flow_of (Window o rd rs1 x) = Continues

-- what an illegal word alone does not do
unfoldable pub is_known : Flow → Bool
is_known Faults = false
is_known Continues = true
is_known Traps = true
is_known (Calls disp) = true
is_known (Branches cond annul disp) = true
is_known (Jumps rd) = true
