-- An instruction as six numbers: its form; annul; rd or cond; rs1; 1 where the second operand is a constant, 0 where it is a register; and the
-- constant, the second register's number or the displacement. The form is 64 op + op3, or 64 for call, 2 for Bicc and 4 for sethi. A number
-- that the form does not have is 0 when read, and not looked at when written.
use Rattle.std.specs.Prelude.{ℕ, ◌+◌, ◌/◌, ◌%◌, ◌^◌, not, List, [], ◌∷◌, Ok, Err, eqb}
use Rattle.numbers.specs.Choice.{pick, find}
use Rattle.numbers.specs.Number.{number_at, bytes_of}
use Rattle.words.specs.Conditions.{bit_of}
use Rattle.words.specs.Reader.{format2_of, format3_of, instruction_of}
use Rattle.words.specs.Writer.{arithmetic_op3, shift_op3, window_op3, load_op3, store_op3, Written, written_of}
use Rattle.words.specs.declared.Operand.{Operand}
use Rattle.words.specs.declared.Operand.TheVariants.{Register, Constant}
use Rattle.words.specs.declared.Instruction.{Instruction}
use Rattle.words.specs.declared.Instruction.TheVariants.{Illegal, Call, Sethi, Bicc, Arithmetic, Jmpl, Ticc, Load, Store, Shift, Rdy, Wry, Window}

-- form, rd or cond, rs1 and the second operand
unfoldable pub with_operand : ℕ → ℕ → ℕ → Operand → List ℕ
with_operand form rd rs1 (Register r) = form ∷ 0 ∷ rd ∷ rs1 ∷ 0 ∷ r % 2 ^ 32 ∷ []
with_operand form rd rs1 (Constant k) = form ∷ 0 ∷ rd ∷ rs1 ∷ 1 ∷ k ∷ []

unfoldable pub six_of : Instruction → List ℕ
six_of Illegal = 0 ∷ 0 ∷ 0 ∷ 0 ∷ 0 ∷ 0 ∷ []
six_of (Call disp) = 64 ∷ 0 ∷ 0 ∷ 0 ∷ 0 ∷ disp ∷ []
six_of (Sethi rd imm) = 4 ∷ 0 ∷ rd ∷ 0 ∷ 0 ∷ imm ∷ []
six_of (Bicc cond annul disp) = 2 ∷ bit_of annul ∷ cond ∷ 0 ∷ 0 ∷ disp ∷ []
six_of (Arithmetic o cc rd rs1 x) = with_operand (128 + arithmetic_op3 o cc) rd rs1 x
six_of (Jmpl rd rs1 x) = with_operand 184 rd rs1 x
six_of (Ticc cond rs1 x) = with_operand 186 cond rs1 x
six_of (Load o rd rs1 x) = with_operand (192 + load_op3 o) rd rs1 x
six_of (Store w rd rs1 x) = with_operand (192 + store_op3 w) rd rs1 x
six_of (Shift o rd rs1 x) = with_operand (128 + shift_op3 o) rd rs1 x
six_of (Rdy rd) = 168 ∷ 0 ∷ rd ∷ 0 ∷ 0 ∷ 0 ∷ []
six_of (Wry s) = with_operand 176 0 s.rs1 s.operand
six_of (Window o rd rs1 x) = with_operand (128 + window_op3 o) rd rs1 x

-- a mark of 0 is a register's, any other a constant's
unfoldable pub operand_from : ℕ → ℕ → Operand
operand_from mark v = pick (eqb mark 0) (Register v) (Constant v)

unfoldable pub by_op : ℕ → ℕ → ℕ → Operand → Instruction
by_op form rd rs1 x =
    pick (eqb (form / 64) 2) (format2_of (form % 64) rd rd rs1 x) (pick (eqb (form / 64) 3) (format3_of (form % 64) rd rs1 x) Illegal)

abbrev pub forms : ℕ → ℕ → ℕ → List (ℕ × Instruction)
forms annul rd v = (2, Bicc rd (not (eqb annul 0)) v) ∷ (4, Sethi rd v) ∷ (64, Call v) ∷ []

unfoldable pub instruction_from : ℕ → ℕ → ℕ → ℕ → ℕ → ℕ → Instruction
instruction_from form annul rd rs1 mark v = find (forms annul rd v) (by_op form rd rs1 (operand_from mark v)) form

-- 0 and the word, or 7 and the bits of the field
unfoldable pub answer_of : Written → List ℕ
answer_of (Ok word) = 0 ∷ word ∷ []
answer_of (Err e) = 7 ∷ e.0 ∷ []

-- what `pijorrel_write` answers of 24 bytes, and what `pijorrel_read` leaves in them
unfoldable pub writes : List ℕ → List ℕ
writes s = answer_of (written_of (instruction_from (number_at s 0) (number_at s 4) (number_at s 8) (number_at s 12) (number_at s 16) (number_at s 20)))

unfoldable pub reads : ℕ → List ℕ
reads word = bytes_of (six_of (instruction_of word))
