-- 01: "Each word reads as one instruction whose second operand is a register or a signed 13-bit constant."
use Rattle.std.specs.Prelude.{ℕ, zero, suc, ◌-◌, ◌/◌, ◌%◌, ◌^◌, Bool, true, false, not, ◌&&◌, ◌||◌, List, [], ◌∷◌, ◌++◌, eqb}
use Rattle.numbers.specs.Choice.{pick, find}
use Rattle.numbers.specs.Number.{signed}
use Rattle.words.specs.declared.Operand.{Operand}
use Rattle.words.specs.declared.Operand.TheVariants.{Register, Constant}
use Rattle.words.specs.declared.Sources.{Sources}
use Rattle.words.specs.declared.Operation.TheVariants.{Add, And, Or, Xor, Sub, Andn, Orn, Xnor, Addx, Subx, Umul, Smul}
use Rattle.words.specs.declared.ShiftOperation.TheVariants.{Sll, Srl, Sra}
use Rattle.words.specs.declared.WindowOperation.TheVariants.{Save, Restore}
use Rattle.words.specs.declared.LoadOperation.TheVariants.{Ld, Ldub, Lduh, Ldsb, Ldsh}
use Rattle.words.specs.declared.Width.TheVariants.{Byte, Half, Word}
use Rattle.words.specs.declared.Instruction.{Instruction}
use Rattle.words.specs.declared.Instruction.TheVariants.{Illegal, Call, Sethi, Bicc, Arithmetic, Jmpl, Ticc, Load, Store, Shift, Rdy, Wry, Window}

-- "the other fields are cut from it as V8 draws them": so many bits of a word, from the lowest of them
unfoldable pub bits : ℕ → ℕ → ℕ → ℕ
bits word low width = word / 2 ^ low % 2 ^ width

unfoldable pub bit_set : ℕ → ℕ → Bool
bit_set word n = eqb (bits word n 1) 1

-- bit 13 tells a constant, simm13, from a register, rs2
unfoldable pub operand_of : ℕ → Operand
operand_of word = pick (bit_set word 13) (Constant (signed 13 (bits word 0 13))) (Register (bits word 0 5))

abbrev pub sources : ℕ → Operand → Sources
sources r x = record { rs1 = r; operand = x }

-- format 0, by op2: branches and sethi
abbrev pub rows0 : ℕ → List (ℕ × Instruction)
rows0 word =
    (2, Bicc (bits word 25 4) (bit_set word 29) (signed 22 (bits word 0 22))) ∷ (4, Sethi (bits word 25 5) (bits word 0 22)) ∷ []

unfoldable pub format0_of : ℕ → Instruction
format0_of word = find (rows0 word) Illegal (bits word 22 3)

-- format 2, by op3: what the word reads as, from its fields cond, rd, rs1 and its second operand. 02, N4: "Add umul, smul, umulcc, smulcc, rdy and
-- wry from V8"; N11: "Compiled images use save and restore, now illegal. Add V8's windows"
abbrev pub Format2 : Type 0
Format2 = ℕ → ℕ → ℕ → Operand → Instruction

abbrev pub none2 : Format2
none2 cond rd rs1 x = Illegal

abbrev pub arithmetic_rows : List (ℕ × Format2)
arithmetic_rows =
    (0, λ cond rd rs1 x. Arithmetic Add false rd rs1 x)
    ∷ (1, λ cond rd rs1 x. Arithmetic And false rd rs1 x)
    ∷ (2, λ cond rd rs1 x. Arithmetic Or false rd rs1 x)
    ∷ (3, λ cond rd rs1 x. Arithmetic Xor false rd rs1 x)
    ∷ (4, λ cond rd rs1 x. Arithmetic Sub false rd rs1 x)
    ∷ (5, λ cond rd rs1 x. Arithmetic Andn false rd rs1 x)
    ∷ (6, λ cond rd rs1 x. Arithmetic Orn false rd rs1 x)
    ∷ (7, λ cond rd rs1 x. Arithmetic Xnor false rd rs1 x)
    ∷ (8, λ cond rd rs1 x. Arithmetic Addx false rd rs1 x)
    ∷ (10, λ cond rd rs1 x. Arithmetic Umul false rd rs1 x)
    ∷ (11, λ cond rd rs1 x. Arithmetic Smul false rd rs1 x)
    ∷ (12, λ cond rd rs1 x. Arithmetic Subx false rd rs1 x)
    ∷ (16, λ cond rd rs1 x. Arithmetic Add true rd rs1 x)
    ∷ (17, λ cond rd rs1 x. Arithmetic And true rd rs1 x)
    ∷ (18, λ cond rd rs1 x. Arithmetic Or true rd rs1 x)
    ∷ (19, λ cond rd rs1 x. Arithmetic Xor true rd rs1 x)
    ∷ (20, λ cond rd rs1 x. Arithmetic Sub true rd rs1 x)
    ∷ (21, λ cond rd rs1 x. Arithmetic Andn true rd rs1 x)
    ∷ (22, λ cond rd rs1 x. Arithmetic Orn true rd rs1 x)
    ∷ (23, λ cond rd rs1 x. Arithmetic Xnor true rd rs1 x)
    ∷ (24, λ cond rd rs1 x. Arithmetic Addx true rd rs1 x)
    ∷ (26, λ cond rd rs1 x. Arithmetic Umul true rd rs1 x)
    ∷ (27, λ cond rd rs1 x. Arithmetic Smul true rd rs1 x)
    ∷ (28, λ cond rd rs1 x. Arithmetic Subx true rd rs1 x)
    ∷ []

abbrev pub other_rows : List (ℕ × Format2)
other_rows =
    (37, λ cond rd rs1 x. Shift Sll rd rs1 x)
    ∷ (38, λ cond rd rs1 x. Shift Srl rd rs1 x)
    ∷ (39, λ cond rd rs1 x. Shift Sra rd rs1 x)
    ∷ (40, λ cond rd rs1 x. Rdy rd)
    ∷ (48, λ cond rd rs1 x. Wry (sources rs1 x))
    ∷ (56, λ cond rd rs1 x. Jmpl rd rs1 x)
    ∷ (58, λ cond rd rs1 x. Ticc cond rs1 x)
    ∷ (60, λ cond rd rs1 x. Window Save rd rs1 x)
    ∷ (61, λ cond rd rs1 x. Window Restore rd rs1 x)
    ∷ []

abbrev pub rows2 : List (ℕ × Format2)
rows2 = arithmetic_rows ++ other_rows

unfoldable pub format2_of : ℕ → Format2
format2_of op3 = find rows2 none2 op3

-- format 3, by op3: loads and stores, from rd, rs1 and the second operand
abbrev pub Format3 : Type 0
Format3 = ℕ → ℕ → Operand → Instruction

abbrev pub none3 : Format3
none3 rd rs1 x = Illegal

abbrev pub rows3 : List (ℕ × Format3)
rows3 =
    (0, λ rd rs1 x. Load Ld rd rs1 x)
    ∷ (1, λ rd rs1 x. Load Ldub rd rs1 x)
    ∷ (2, λ rd rs1 x. Load Lduh rd rs1 x)
    ∷ (4, λ rd rs1 x. Store Word rd rs1 x)
    ∷ (5, λ rd rs1 x. Store Byte rd rs1 x)
    ∷ (6, λ rd rs1 x. Store Half rd rs1 x)
    ∷ (9, λ rd rs1 x. Load Ldsb rd rs1 x)
    ∷ (10, λ rd rs1 x. Load Ldsh rd rs1 x)
    ∷ []

unfoldable pub format3_of : ℕ → Format3
format3_of op3 = find rows3 none3 op3

-- "Bits 31 and 30 of a word choose its format"
unfoldable pub by_format : ℕ → ℕ → Instruction
by_format zero word = format0_of word
by_format (suc zero) word = Call (signed 30 (bits word 0 30))
by_format (suc (suc zero)) word = format2_of (bits word 19 6) (bits word 25 4) (bits word 25 5) (bits word 14 5) (operand_of word)
by_format (suc (suc (suc n))) word = format3_of (bits word 19 6) (bits word 25 5) (bits word 14 5) (operand_of word)

-- 02, N2: "The reader .. takes a word with an unused bit set as illegal": a bit from the given one to bit 12
unfoldable pub set_from : ℕ → ℕ → Bool
set_from n word = not (eqb (bits word n (13 - n)) 0)

-- "bits 12 to 5 when the second operand is a register"
unfoldable pub register_strays : ℕ → Bool
register_strays word = not (bit_set word 13) && set_from 5 word

-- 02, N4: "Rdy with rs1 not 0 and wry with rd not 0 are illegal, as is rdy with any of bits 13 to 0 set."
unfoldable pub rdy_strays : ℕ → Bool
rdy_strays word = not (eqb (bits word 14 5) 0) || not (eqb (bits word 0 14) 0)

unfoldable pub wry_strays : ℕ → Bool
wry_strays word = not (eqb (bits word 25 5) 0)

-- 02, N2: "or a shift's constant; bits 12 to 7 of a Ticc with a constant; bit 29 of a Ticc"; call, sethi and Bicc use all their bits
unfoldable pub unused_set : Instruction → ℕ → Bool
unused_set Illegal word = false
unused_set (Call disp) word = false
unused_set (Sethi rd imm) word = false
unused_set (Bicc cond annul disp) word = false
unused_set (Arithmetic o cc rd rs1 x) word = register_strays word
unused_set (Jmpl rd rs1 x) word = register_strays word
unused_set (Ticc cond rs1 x) word = register_strays word || (bit_set word 29 || set_from 7 word)
unused_set (Load o rd rs1 x) word = register_strays word
unused_set (Store w rd rs1 x) word = register_strays word
unused_set (Shift o rd rs1 x) word = set_from 5 word
unused_set (Rdy rd) word = rdy_strays word
unused_set (Wry s) word = register_strays word || wry_strays word
unused_set (Window o rd rs1 x) word = register_strays word

unfoldable pub strictly : ℕ → Instruction → Instruction
strictly word i = pick (unused_set i word) Illegal i

-- "All others are illegal."
unfoldable pub instruction_of : ℕ → Instruction
instruction_of word = strictly word (by_format (bits word 30 2) word)

-- 02, N1: a word "with bits 31, 30 and 24 to 22 all 0", as V8 draws unimp, whatever else it reads as
unfoldable pub is_unimp : ℕ → Bool
is_unimp word = eqb (bits word 30 2) 0 && eqb (bits word 22 3) 0

-- an instruction where a jmpl is called for: any other is as good as illegal
unfoldable pub as_jmpl : Instruction → Instruction
as_jmpl Illegal = Illegal
as_jmpl (Call disp) = Illegal
as_jmpl (Sethi rd imm) = Illegal
as_jmpl (Bicc cond annul disp) = Illegal
as_jmpl (Arithmetic o cc rd rs1 x) = Illegal
as_jmpl (Jmpl rd rs1 x) = Jmpl rd rs1 x
as_jmpl (Ticc cond rs1 x) = Illegal
as_jmpl (Load o rd rs1 x) = Illegal
as_jmpl (Store w rd rs1 x) = Illegal
as_jmpl (Shift o rd rs1 x) = Illegal
as_jmpl (Rdy rd) = Illegal
as_jmpl (Wry s) = Illegal
as_jmpl (Window o rd rs1 x) = Illegal
