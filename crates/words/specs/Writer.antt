-- 02, N2: "A writer for the words that the reader knows. .. Each instruction has one word, with unused bits 0."
use Rattle.std.specs.Prelude.{ℕ, ◌-◌, ◌*◌, ◌%◌, ◌^◌, Bool, ◌&&◌, ◌||◌, List, [], ◌∷◌, Result, Ok, Err, leb, ltb}
use Rattle.numbers.specs.Choice.{pick}
use Rattle.numbers.specs.Number.{plus}
use Rattle.words.specs.Conditions.{bit_of}
use Rattle.words.specs.declared.Operand.{Operand}
use Rattle.words.specs.declared.Operand.TheVariants.{Register, Constant}
use Rattle.words.specs.declared.Operation.{Operation}
use Rattle.words.specs.declared.Operation.TheVariants.{Add, And, Or, Xor, Sub, Andn, Orn, Xnor, Addx, Subx, Umul, Smul}
use Rattle.words.specs.declared.ShiftOperation.{ShiftOperation}
use Rattle.words.specs.declared.ShiftOperation.TheVariants.{Sll, Srl, Sra}
use Rattle.words.specs.declared.WindowOperation.{WindowOperation}
use Rattle.words.specs.declared.WindowOperation.TheVariants.{Save, Restore}
use Rattle.words.specs.declared.LoadOperation.{LoadOperation}
use Rattle.words.specs.declared.LoadOperation.TheVariants.{Ld, Ldub, Lduh, Ldsb, Ldsh}
use Rattle.words.specs.declared.Width.{Width}
use Rattle.words.specs.declared.Width.TheVariants.{Byte, Half, Word}
use Rattle.words.specs.declared.Instruction.{Instruction}
use Rattle.words.specs.declared.Instruction.TheVariants.{Illegal, Call, Sethi, Bicc, Arithmetic, Jmpl, Ticc, Load, Store, Shift, Rdy, Wry, Window}
use Rattle.words.specs.declared.Unfit.{Unfit}

-- an instruction's word, or the bits of the field that a number of it does not fit
abbrev pub Written : Type 0
Written = Result ℕ Unfit

abbrev pub refusal : ℕ → Written
refusal n = Err (record { 0 = n })

-- a field of a word: how many bits it has, whether the number that it is to hold fits, and what its bits are
pub record Field : Type 0 where
  pub width : ℕ
  pub fits : Bool
  pub value : ℕ

abbrev pub field : ℕ → Bool → ℕ → Field
field n t v = record { width = n; fits = t; value = v }

-- "Shift, Ticc and sethi constants are unsigned", and so are conditions and register numbers
abbrev pub plain : ℕ → ℕ → Field
plain n v = field n (ltb v (2 ^ n)) v

-- "displacements count words and are signed", as are the other constants: 32-bit numbers, the upper ones below 0
abbrev pub with_sign : ℕ → ℕ → Field
with_sign n v = field n (ltb v (2 ^ (n - 1)) || (leb (2 ^ 32 - 2 ^ (n - 1)) v && ltb v (2 ^ 32))) (v % 2 ^ n)

-- "Refused: 7, a constant, displacement, condition or register number does not fit its field, with the bits the field has"
abbrev pub behind : Written → Field → Written
behind (Ok word) f = pick f.fits (Ok (plus (word * 2 ^ f.width) f.value)) (refusal f.width)
behind (Err e) f = Err e

-- "of several, the one highest in the word counts": fields from the highest to the lowest, behind the first bits of the word
abbrev pub joined : Written → List Field → Written
joined w [] = w
joined w (f ∷ fs) = joined (behind w f) fs

-- the second operand: bit 13, unused bits, and a register or a constant
abbrev pub operand : (ℕ → List Field) → Operand → List Field
operand constant (Register r) = plain 1 0 ∷ plain 8 0 ∷ plain 5 r ∷ []
operand constant (Constant k) = plain 1 1 ∷ constant k

abbrev pub constant13 : ℕ → List Field
constant13 k = with_sign 13 k ∷ []

abbrev pub constant7 : ℕ → List Field
constant7 k = plain 6 0 ∷ plain 7 k ∷ []

abbrev pub constant5 : ℕ → List Field
constant5 k = plain 8 0 ∷ plain 5 k ∷ []

-- op3 of each operation
unfoldable pub arithmetic_op3 : Operation → Bool → ℕ
arithmetic_op3 Add cc = pick cc 16 0
arithmetic_op3 And cc = pick cc 17 1
arithmetic_op3 Or cc = pick cc 18 2
arithmetic_op3 Xor cc = pick cc 19 3
arithmetic_op3 Sub cc = pick cc 20 4
arithmetic_op3 Andn cc = pick cc 21 5
arithmetic_op3 Orn cc = pick cc 22 6
arithmetic_op3 Xnor cc = pick cc 23 7
arithmetic_op3 Addx cc = pick cc 24 8
arithmetic_op3 Umul cc = pick cc 26 10
arithmetic_op3 Smul cc = pick cc 27 11
arithmetic_op3 Subx cc = pick cc 28 12

unfoldable pub shift_op3 : ShiftOperation → ℕ
shift_op3 Sll = 37
shift_op3 Srl = 38
shift_op3 Sra = 39

unfoldable pub window_op3 : WindowOperation → ℕ
window_op3 Save = 60
window_op3 Restore = 61

unfoldable pub load_op3 : LoadOperation → ℕ
load_op3 Ld = 0
load_op3 Ldub = 1
load_op3 Lduh = 2
load_op3 Ldsb = 9
load_op3 Ldsh = 10

unfoldable pub store_op3 : Width → ℕ
store_op3 Word = 4
store_op3 Byte = 5
store_op3 Half = 6

-- op, a register or a condition, op3, rs1 and the second operand
unfoldable pub long_word : ℕ → ℕ → ℕ → ℕ → Operand → Written
long_word op rd op3 rs1 x = joined (Ok op) (plain 5 rd ∷ plain 6 op3 ∷ plain 5 rs1 ∷ operand constant13 x)

unfoldable pub shift_word : ℕ → ℕ → ℕ → Operand → Written
shift_word rd op3 rs1 x = joined (Ok 2) (plain 5 rd ∷ plain 6 op3 ∷ plain 5 rs1 ∷ operand constant5 x)

-- 02, N4: "N2's writer covers them"; what rdy and wry do not have is 0
unfoldable pub rdy_word : ℕ → Written
rdy_word rd = long_word 2 rd 40 0 (Register 0)

unfoldable pub wry_word : ℕ → Operand → Written
wry_word rs1 x = long_word 2 0 48 rs1 x

unfoldable pub trap_word : ℕ → ℕ → Operand → Written
trap_word cond rs1 x = joined (Ok 2) (plain 1 0 ∷ plain 4 cond ∷ plain 6 58 ∷ plain 5 rs1 ∷ operand constant7 x)

unfoldable pub sethi_word : ℕ → ℕ → Written
sethi_word rd imm = joined (Ok 0) (plain 5 rd ∷ plain 3 4 ∷ plain 22 imm ∷ [])

unfoldable pub branch_word : ℕ → Bool → ℕ → Written
branch_word cond annul disp = joined (Ok 0) (plain 1 (bit_of annul) ∷ plain 4 cond ∷ plain 3 2 ∷ with_sign 22 disp ∷ [])

unfoldable pub call_word : ℕ → Written
call_word disp = joined (Ok 1) (with_sign 30 disp ∷ [])

-- the word of an instruction, or the bits of the field that refuses it; what is no instruction has no field
unfoldable pub written_of : Instruction → Written
written_of Illegal = refusal 0
written_of (Call disp) = call_word disp
written_of (Sethi rd imm) = sethi_word rd imm
written_of (Bicc cond annul disp) = branch_word cond annul disp
written_of (Arithmetic o cc rd rs1 x) = long_word 2 rd (arithmetic_op3 o cc) rs1 x
written_of (Jmpl rd rs1 x) = long_word 2 rd 56 rs1 x
written_of (Ticc cond rs1 x) = trap_word cond rs1 x
written_of (Load o rd rs1 x) = long_word 3 rd (load_op3 o) rs1 x
written_of (Store w rd rs1 x) = long_word 3 rd (store_op3 w) rs1 x
written_of (Shift o rd rs1 x) = shift_word rd (shift_op3 o) rs1 x
written_of (Rdy rd) = rdy_word rd
written_of (Wry s) = wry_word s.rs1 s.operand
-- 02, N11: "N2's writer gains both words"
written_of (Window o rd rs1 x) = long_word 2 rd (window_op3 o) rs1 x
