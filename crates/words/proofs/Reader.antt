-- Laws of the reader: a field cut by a mask, and the row of a table that a field chooses.
use Prim.Native.Nat.{ℕ, ◌-◌, ◌*◌, ◌/◌, ◌%◌, ◌^◌, ◌<◌}
use mathlib.Core.Path.{◌≡◌, sym, ap, ◌∙◌}
use native.Mathlib.Omega.{arith}
use Rattle.std.proofs.Common.{Bool, true, false}
use Rattle.std.specs.Bool.{MatchBool}
use Rattle.numbers.specs.Choice.{pick}
use Rattle.std.proofs.lemmas.Nat.{one_shl}
use lib.Bits.{bit_and, and_mask}
use Rattle.numbers.specs.Choice.{find}
use Rattle.numbers.proofs.Choice.{Misses, find_behind, find_none}
use Rattle.words.specs.declared.Operand.{Operand}
use Rattle.words.specs.declared.Instruction.{Instruction}
use Rattle.words.specs.declared.Instruction.TheVariants.{Illegal}
use Rattle.words.specs.Reader.{bits, rows0, format0_of, Format2, none2, arithmetic_rows, other_rows, format2_of, Format3, rows3, none3, format3_of, by_format, strictly, instruction_of}

-- the mask of a field, as it is shifted
pub masked : (word low width : ℕ) → width < 32 → bit_and (word / 2 ^ low) (1 * 2 ^ width % 2 ^ 32 - 1) ≡ bits word low width
unfolding bits
masked word low width h = rw (one_shl width 32 h) (and_mask (word / 2 ^ low) width)

-- an instruction that is made of a word unless a bit beside a register is set
pub made : (t : Bool) (r i : Instruction) (Q : Type 0) → MatchBool t (r ≡ Illegal) Q → (Q → r ≡ i) → r ≡ pick t Illegal i
made true r i Q m f = m
made false r i Q m f = f m

-- a field that is in no row chooses an illegal word
pub no_row_other : (op3 cond rd rs1 : ℕ) (x : Operand) → Misses (Unit {0}) other_rows op3 → Illegal ≡ find other_rows none2 op3 cond rd rs1 x
no_row_other op3 cond rd rs1 x m = sym (ap (λ (f : Format2). f cond rd rs1 x) (find_none other_rows none2 op3 m))

-- one that is in no row of arithmetic is left to the others
pub behind_row2 : (op3 cond rd rs1 : ℕ) (x : Operand) → Misses (Unit {0}) arithmetic_rows op3 → find other_rows none2 op3 cond rd rs1 x ≡ format2_of op3 cond rd rs1 x
unfolding format2_of
behind_row2 op3 cond rd rs1 x m = sym (ap (λ (f : Format2). f cond rd rs1 x) (find_behind arithmetic_rows other_rows none2 op3 m))

pub no_row3 : (op3 rd rs1 : ℕ) (x : Operand) → Misses (Unit {0}) rows3 op3 → Illegal ≡ format3_of op3 rd rs1 x
unfolding format3_of
no_row3 op3 rd rs1 x m = sym (ap (λ (f : Format3). f rd rs1 x) (find_none rows3 none3 op3 m))

-- the instruction of a word whose format is known
pub by_op_lem : (word k n : ℕ) → k ≡ bits word 30 2 → k ≡ n → instruction_of word ≡ strictly word (by_format n word)
unfolding instruction_of
by_op_lem word k n e h = ap (λ (m : ℕ). strictly word (by_format m word)) (sym e ∙ h)

pub no_row0 : (word k : ℕ) → k ≡ bits word 22 3 → Misses (Unit {0}) (rows0 word) k → Illegal ≡ format0_of word
unfolding format0_of
no_row0 word k e m = sym (rw (← e) (find_none (rows0 word) Illegal k m))

pub top_two : (word k : ℕ) → k ≡ bits word 30 2 → k < 4
unfolding bits
top_two word k e = omega arith
