-- Laws of the reader for a jmpl alone.
use Prim.Native.Nat.{ℕ, zero, suc}
use mathlib.Core.Path.{◌≡◌, refl, sym}
use mathlib.Core.Bool.{Bool, true, false, ◌||◌, or-true, false≢true}
use lib.Dec.{eqb}
use borrow.Author.Tests.{ne_eqb}
use Rattle.numbers.proofs.Choice.{either, found_passes}
use Rattle.words.proofs.Strict.{left_strictly}
use Rattle.words.specs.declared.Operand.{Operand}
use Rattle.words.specs.declared.Instruction.{Instruction}
use Rattle.words.specs.declared.Instruction.TheVariants.{Illegal, Call, Sethi, Bicc, Arithmetic, Jmpl, Ticc, Load, Store, Shift, Rdy, Wry, Window}
use Rattle.words.specs.Reader.{bits, operand_of, rows0, format0_of, rows2, none2, format2_of, rows3, none3, format3_of, by_format, register_strays, unused_set, strictly, instruction_of, as_jmpl}

-- a jmpl is in format 2, with op3 56, and nowhere else
abbrev is_no_jmpl : Instruction → Bool
is_no_jmpl Illegal = true
is_no_jmpl (Call disp) = true
is_no_jmpl (Sethi rd imm) = true
is_no_jmpl (Bicc cond annul disp) = true
is_no_jmpl (Arithmetic o cc rd rs1 x) = true
is_no_jmpl (Jmpl rd rs1 x) = false
is_no_jmpl (Ticc cond rs1 x) = true
is_no_jmpl (Load o rd rs1 x) = true
is_no_jmpl (Store w rd rs1 x) = true
is_no_jmpl (Shift o rd rs1 x) = true
is_no_jmpl (Rdy rd) = true
is_no_jmpl (Wry s) = true
is_no_jmpl (Window o rd rs1 x) = true

as_illegal : (i : Instruction) → is_no_jmpl i ≡ true → Illegal ≡ as_jmpl i
unfolding as_jmpl
as_illegal Illegal e = refl
as_illegal (Call disp) e = refl
as_illegal (Sethi rd imm) e = refl
as_illegal (Bicc cond annul disp) e = refl
as_illegal (Arithmetic o cc rd rs1 x) e = refl
as_illegal (Jmpl rd rs1 x) e = absurd (false≢true e)
as_illegal (Ticc cond rs1 x) e = refl
as_illegal (Load o rd rs1 x) e = refl
as_illegal (Store w rd rs1 x) e = refl
as_illegal (Shift o rd rs1 x) e = refl
as_illegal (Rdy rd) e = refl
as_illegal (Wry s) e = refl
as_illegal (Window o rd rs1 x) e = refl

none_left : (word : ℕ) (i : Instruction) → is_no_jmpl i ≡ true → Illegal ≡ as_jmpl (strictly word i)
none_left word i e = as_illegal (strictly word i) (left_strictly (λ (j : Instruction). is_no_jmpl j ≡ true) word i refl e)

as_jmpl_lem : (word rd rs1 : ℕ) (x : Operand) → strictly word (Jmpl rd rs1 x) ≡ as_jmpl (strictly word (Jmpl rd rs1 x))
unfolding strictly unused_set as_jmpl
as_jmpl_lem word rd rs1 x = either (λ (i : Instruction). i ≡ as_jmpl i) (register_strays word) Illegal (Jmpl rd rs1 x) refl refl

other_format : (k word : ℕ) → (k ≡ 2 → ⊥) → is_no_jmpl (by_format k word) ≡ true
unfolding by_format format0_of format3_of
other_format zero word n = found_passes (λ k i. is_no_jmpl i) (rows0 word) Illegal (bits word 22 3) refl refl
other_format (suc zero) word n = refl
other_format (suc (suc zero)) word n = absurd (n refl)
other_format (suc (suc (suc k))) word n =
    found_passes (λ k f. is_no_jmpl (f (bits word 25 5) (bits word 14 5) (operand_of word))) rows3 none3 (bits word 19 6) refl refl

other_op3 : (op3 cond rd rs1 : ℕ) (x : Operand) → (op3 ≡ 56 → ⊥) → is_no_jmpl (format2_of op3 cond rd rs1 x) ≡ true
unfolding format2_of
other_op3 op3 cond rd rs1 x n =
    second (eqb op3 56) (is_no_jmpl (format2_of op3 cond rd rs1 x)) (ne_eqb op3 56 n)
    (found_passes (λ k f. eqb k 56 || is_no_jmpl (f cond rd rs1 x)) rows2 none2 op3 refl (or-true (eqb op3 56)))
  where
    second : (a b : Bool) → a ≡ false → a || b ≡ true → b ≡ true
    second true b e h = absurd (false≢true (sym e))
    second false b e h = h

pub jmpl_read : (word : ℕ) → bits word 30 2 ≡ 2 → bits word 19 6 ≡ 56
    → strictly word (Jmpl (bits word 25 5) (bits word 14 5) (operand_of word)) ≡ as_jmpl (instruction_of word)
unfolding instruction_of by_format format2_of
jmpl_read word e f = rw (e, f) (as_jmpl_lem word _ _ _)

pub no_jmpl_op : (word : ℕ) → (bits word 30 2 ≡ 2 → ⊥) → Illegal ≡ as_jmpl (instruction_of word)
unfolding instruction_of
no_jmpl_op word n = none_left word (by_format (bits word 30 2) word) (other_format (bits word 30 2) word n)

pub no_jmpl_op3 : (word : ℕ) → bits word 30 2 ≡ 2 → (bits word 19 6 ≡ 56 → ⊥) → Illegal ≡ as_jmpl (instruction_of word)
unfolding instruction_of by_format
no_jmpl_op3 word e n =
    rw e (none_left word _ (other_op3 (bits word 19 6) (bits word 25 4) (bits word 25 5) (bits word 14 5) (operand_of word) n))
