-- An instruction that is not refused reads back from its word, and a known word is written again.
use Prim.Native.Nat.{ℕ, zero, suc, ◌/◌, ◌%◌, ◌^◌, ◌<◌}
use mathlib.Core.Path.{◌≡◌, refl, sym}
use mathlib.Core.Bool.{Bool, true, false, not, ◌||◌, and-false, false≢true}
use mathlib.Core.List.{List, [], ◌∷◌}
use native.Mathlib.Nat.{mod-lt, mod-eq_of_lt}
use native.Mathlib.Omega.{arith}
use lib.Dec.{eqb}
use lib.Pow.{pow_pos, mod-pow-add}
use borrow.Author.Tests.{lt-ltb, ltb-true, eqb-true, eqb-false}
use Rattle.std.proofs.Common.{Ok}
use Rattle.numbers.specs.Choice.{pick}
use Rattle.numbers.specs.Number.{signed}
use Rattle.numbers.proofs.Choice.{found_all}
use Rattle.words.specs.Conditions.{bit_of}
use Rattle.words.specs.declared.Operand.{Operand}
use Rattle.words.specs.declared.Operand.TheVariants.{Register, Constant}
use Rattle.words.specs.declared.Operation.{Operation}
use Rattle.words.specs.declared.Operation.TheVariants.{Add, And, Or, Xor, Sub, Andn, Orn, Xnor, Addx, Subx, Umul, Smul}
use Rattle.words.specs.declared.ShiftOperation.{ShiftOperation}
use Rattle.words.specs.declared.ShiftOperation.TheVariants.{Sll, Srl, Sra}
use Rattle.words.specs.declared.WindowOperation.{WindowOperation}
use Rattle.words.specs.declared.WindowOperation.TheVariants.{Save, Restore}
use Rattle.words.specs.declared.LoadOperation.{LoadOperation}
use Rattle.words.specs.declared.LoadOperation.TheVariants.{Ld, Ldub, Lduh, Ldsb, Ldsh}
use Rattle.words.specs.declared.Width.{Width}
use Rattle.words.specs.declared.Width.TheVariants.{Byte, Half, Word}
use Rattle.words.specs.declared.Instruction.{Instruction}
use Rattle.words.specs.declared.Instruction.TheVariants.{Illegal, Call, Sethi, Bicc, Arithmetic, Jmpl, Ticc, Load, Store, Shift, Rdy, Wry, Window}
use Rattle.words.specs.Reader.{bits, bit_set, operand_of, sources, rows0, format0_of, Format2, rows2, none2, format2_of, Format3, rows3, none3, format3_of, by_format, set_from, register_strays, rdy_strays, wry_strays, unused_set, strictly, instruction_of}
use Rattle.words.specs.Writer.{Field, plain, with_sign, joined, operand, constant13, constant7, constant5, arithmetic_op3, shift_op3, window_op3, load_op3, store_op3, long_word, shift_word, rdy_word, wry_word, trap_word, sethi_word, branch_word, call_word, written_of}
use Rattle.words.specs.RoundTrip.{ReadsBack, WritesAgain}
use Rattle.words.proofs.Strict.{or_clear}
use Rattle.words.proofs.Joined.{total, Sounds, Has, Holds, plain_sound, sign_sound, joined_holds, joined_back, read_fits, fits_read}

-- ---- the second operand

-- of a constant: thirteen bits, whatever part of them it uses
record Room (c : ℕ → List Field) : Type 0 where
  pub width : (k : ℕ) → total (c k) ≡ 13
  pub sound : (k : ℕ) → Sounds (c k)

room_13 : Room constant13
room_13 = record { width = λ k. refl; sound = λ k. (sign_sound 13 k, tt) }

room_7 : Room constant7
room_7 = record { width = λ k. refl; sound = λ k. (plain_sound 6 0, (plain_sound 7 k, tt)) }

room_5 : Room constant5
room_5 = record { width = λ k. refl; sound = λ k. (plain_sound 8 0, (plain_sound 5 k, tt)) }

fourteen : (c : ℕ → List Field) → Room c → (x : Operand) → total (operand c x) ≡ 14
fourteen c r (Register i) = refl
fourteen c r (Constant k) = rw (r.width k)

operand_sound : (c : ℕ → List Field) → Room c → (x : Operand) → Sounds (operand c x)
operand_sound c r (Register i) = (plain_sound 1 0, (plain_sound 8 0, (plain_sound 5 i, tt)))
operand_sound c r (Constant k) = (plain_sound 1 1, r.sound k)

-- ---- an instruction reads back

bit_is : (w n : ℕ) → bits w n 1 ≡ 1 → bit_set w n ≡ true
unfolding bit_set
bit_is w n e = rw e

bit_not : (w n : ℕ) → bits w n 1 ≡ 0 → bit_set w n ≡ false
unfolding bit_set
bit_not w n e = rw e

-- a register, with the bits above its number clear
register_read : (w r : ℕ) → Holds w (plain 1 0 ∷ plain 8 0 ∷ plain 5 r ∷ []) → (operand_of w ≡ Register r) × (bits w 5 8 ≡ 0)
unfolding operand_of
register_read w r s = (rw (bit_not w 13 s.0.here, s.1.1.0.here), s.1.0.here)

constant_read : (w k : ℕ) → bits w 13 1 ≡ 1 → signed 13 (bits w 0 13) ≡ k → operand_of w ≡ Constant k
unfolding operand_of
constant_read w k e f = rw (bit_is w 13 e, f)

-- a constant of five and of seven bits
low_five : (w k : ℕ) → bits w 5 8 ≡ 0 → bits w 0 5 ≡ k → bits w 0 13 ≡ k
unfolding bits
low_five w k e f = omega arith

low_seven : (w k : ℕ) → bits w 7 6 ≡ 0 → bits w 0 7 ≡ k → bits w 0 13 ≡ k
unfolding bits
low_seven w k e f = omega arith

not_signed : (k : ℕ) → k < 4096 → signed 13 k ≡ k
unfolding signed
not_signed k h = rw (lt-ltb k 4096 h)

-- what the reader's tests say of clear bits
five_clear : (w : ℕ) → bits w 5 8 ≡ 0 → set_from 5 w ≡ false
unfolding set_from
five_clear w e = rw e

beside_none : (w : ℕ) → bits w 5 8 ≡ 0 → register_strays w ≡ false
unfolding register_strays
beside_none w e = rw (five_clear w e) (and-false (not (bit_set w 13)))

beside_constant : (w : ℕ) → bits w 13 1 ≡ 1 → register_strays w ≡ false
unfolding register_strays
beside_constant w e = rw (bit_is w 13 e)

seven_clear : (w : ℕ) → bits w 7 6 ≡ 0 → set_from 7 w ≡ false
unfolding set_from
seven_clear w e = rw e

seven_of_five : (w : ℕ) → bits w 5 8 ≡ 0 → bits w 7 6 ≡ 0
unfolding bits
seven_of_five w e = omega arith

operand_13 : (w : ℕ) (x : Operand) → Holds w (operand constant13 x) → (operand_of w ≡ x) × (register_strays w ≡ false)
operand_13 w (Register r) s = let p = register_read w r s in (p.0, beside_none w p.1)
operand_13 w (Constant k) s =
    let b : signed 13 (bits w 0 13) ≡ k = rw s.1.0.here (fits_read 13 4096 524287 refl refl refl (omega arith) k s.1.0.fitting) in
    (constant_read w k s.0.here b, beside_constant w s.0.here)

operand_5 : (w : ℕ) (x : Operand) → Holds w (operand constant5 x) → (operand_of w ≡ x) × (set_from 5 w ≡ false)
operand_5 w (Register r) s = let p = register_read w r s in (p.0, five_clear w p.1)
operand_5 w (Constant k) s =
    let b : bits w 0 13 ≡ k = low_five w k s.1.0.here s.1.1.0.here in
    let h : k < 32 = ltb-true k 32 s.1.1.0.fitting in
    (constant_read w k s.0.here (rw b (not_signed k (omega arith))), five_clear w s.1.0.here)

operand_7 : (w : ℕ) (x : Operand) → Holds w (operand constant7 x) → (operand_of w ≡ x) × (register_strays w ≡ false) × (set_from 7 w ≡ false)
operand_7 w (Register r) s =
    let p = register_read w r s in
    (p.0, beside_none w p.1, seven_clear w (seven_of_five w p.1))
operand_7 w (Constant k) s =
    let b : bits w 0 13 ≡ k = low_seven w k s.1.0.here s.1.1.0.here in
    let h : k < 128 = ltb-true k 128 s.1.1.0.fitting in
    (constant_read w k s.0.here (rw b (not_signed k (omega arith))), beside_constant w s.0.here, seven_clear w s.1.0.here)

-- the format from what stands above the fields
top : (w a : ℕ) → w / 2 ^ 30 ≡ a → a < 4 → bits w 30 2 ≡ a
unfolding bits
top w a e h = rw e (mod-eq_of_lt h)

-- the fields in front of a second operand
record Read (w op rd op3 rs1 : ℕ) (fs : List Field) : Type 0 where
  pub op_is : bits w 30 2 ≡ op
  pub rd_is : bits w 25 5 ≡ rd
  pub op3_is : bits w 19 6 ≡ op3
  pub rs1_is : bits w 14 5 ≡ rs1
  pub rest : Holds w fs

front_read : (op rd op3 rs1 w : ℕ) (c : ℕ → List Field) → Room c → (x : Operand) → op < 4
    → joined (Ok op) (plain 5 rd ∷ plain 6 op3 ∷ plain 5 rs1 ∷ operand c x) ≡ Ok w → Read w op rd op3 rs1 (operand c x)
front_read op rd op3 rs1 w c r x h e =
    let t : total (operand c x) ≡ 14 = fourteen c r x in
    let p = joined_holds (plain 5 rd ∷ plain 6 op3 ∷ plain 5 rs1 ∷ operand c x) op 2 w
    (plain_sound 5 rd, (plain_sound 6 op3, (plain_sound 5 rs1, operand_sound c r x))) h (rw t (omega arith)) e in
    record {
      op_is = top w op (rw t at p.0) h;
      rd_is = rw t at p.1.0.here;
      op3_is = rw t at p.1.1.0.here;
      rs1_is = rw t at p.1.1.1.0.here;
      rest = p.1.1.1.1;
    }

-- format 2 and format 3: what the fields make, with no unused bit set
read_2 : (w rd op3 rs1 : ℕ) (x : Operand) (fs : List Field) (i : Instruction) → Read w 2 rd op3 rs1 fs → operand_of w ≡ x
    → ((cond : ℕ) → format2_of op3 cond rd rs1 x ≡ i) → unused_set i w ≡ false → instruction_of w ≡ i
unfolding instruction_of by_format strictly
read_2 w rd op3 rs1 x fs i l o f u = rw (l.op_is, l.op3_is, l.rd_is, l.rs1_is, o, f (bits w 25 4), u)

read_3 : (w rd op3 rs1 : ℕ) (x : Operand) (fs : List Field) (i : Instruction) → Read w 3 rd op3 rs1 fs → operand_of w ≡ x
    → format3_of op3 rd rs1 x ≡ i → unused_set i w ≡ false → instruction_of w ≡ i
unfolding instruction_of by_format strictly
read_3 w rd op3 rs1 x fs i l o f u = rw (l.op_is, l.op3_is, l.rd_is, l.rs1_is, o, f, u)

arithmetic_row : (o : Operation) (cc : Bool) (cond rd rs1 : ℕ) (x : Operand) → format2_of (arithmetic_op3 o cc) cond rd rs1 x ≡ Arithmetic o cc rd rs1 x
unfolding arithmetic_op3 format2_of
arithmetic_row Add true cond rd rs1 x = refl
arithmetic_row Add false cond rd rs1 x = refl
arithmetic_row And true cond rd rs1 x = refl
arithmetic_row And false cond rd rs1 x = refl
arithmetic_row Or true cond rd rs1 x = refl
arithmetic_row Or false cond rd rs1 x = refl
arithmetic_row Xor true cond rd rs1 x = refl
arithmetic_row Xor false cond rd rs1 x = refl
arithmetic_row Sub true cond rd rs1 x = refl
arithmetic_row Sub false cond rd rs1 x = refl
arithmetic_row Andn true cond rd rs1 x = refl
arithmetic_row Andn false cond rd rs1 x = refl
arithmetic_row Orn true cond rd rs1 x = refl
arithmetic_row Orn false cond rd rs1 x = refl
arithmetic_row Xnor true cond rd rs1 x = refl
arithmetic_row Xnor false cond rd rs1 x = refl
arithmetic_row Addx true cond rd rs1 x = refl
arithmetic_row Addx false cond rd rs1 x = refl
arithmetic_row Subx true cond rd rs1 x = refl
arithmetic_row Subx false cond rd rs1 x = refl
arithmetic_row Umul true cond rd rs1 x = refl
arithmetic_row Umul false cond rd rs1 x = refl
arithmetic_row Smul true cond rd rs1 x = refl
arithmetic_row Smul false cond rd rs1 x = refl

load_row : (o : LoadOperation) (rd rs1 : ℕ) (x : Operand) → format3_of (load_op3 o) rd rs1 x ≡ Load o rd rs1 x
unfolding load_op3 format3_of
load_row Ld rd rs1 x = refl
load_row Ldub rd rs1 x = refl
load_row Lduh rd rs1 x = refl
load_row Ldsb rd rs1 x = refl
load_row Ldsh rd rs1 x = refl

store_row : (m : Width) (rd rs1 : ℕ) (x : Operand) → format3_of (store_op3 m) rd rs1 x ≡ Store m rd rs1 x
unfolding store_op3 format3_of
store_row Byte rd rs1 x = refl
store_row Half rd rs1 x = refl
store_row Word rd rs1 x = refl

shift_row : (o : ShiftOperation) (cond rd rs1 : ℕ) (x : Operand) → format2_of (shift_op3 o) cond rd rs1 x ≡ Shift o rd rs1 x
unfolding shift_op3 format2_of
shift_row Sll cond rd rs1 x = refl
shift_row Srl cond rd rs1 x = refl
shift_row Sra cond rd rs1 x = refl

window_row : (o : WindowOperation) (cond rd rs1 : ℕ) (x : Operand) → format2_of (window_op3 o) cond rd rs1 x ≡ Window o rd rs1 x
unfolding window_op3 format2_of
window_row Save cond rd rs1 x = refl
window_row Restore cond rd rs1 x = refl

arithmetic_back : (o : Operation) (cc : Bool) (rd rs1 : ℕ) (x : Operand) (w : ℕ) → long_word 2 rd (arithmetic_op3 o cc) rs1 x ≡ Ok w → instruction_of w ≡ Arithmetic o cc rd rs1 x
unfolding long_word unused_set
arithmetic_back o cc rd rs1 x w e =
    let l = front_read 2 rd (arithmetic_op3 o cc) rs1 w constant13 room_13 x (omega arith) e in
    let p = operand_13 w x l.rest in
    read_2 w rd _ rs1 x _ _ l p.0 (λ cond. arithmetic_row o cc cond rd rs1 x) p.1

window_back : (o : WindowOperation) (rd rs1 : ℕ) (x : Operand) (w : ℕ) → long_word 2 rd (window_op3 o) rs1 x ≡ Ok w → instruction_of w ≡ Window o rd rs1 x
unfolding long_word unused_set
window_back o rd rs1 x w e =
    let l = front_read 2 rd (window_op3 o) rs1 w constant13 room_13 x (omega arith) e in
    let p = operand_13 w x l.rest in
    read_2 w rd _ rs1 x _ _ l p.0 (λ cond. window_row o cond rd rs1 x) p.1

jmpl_back : (rd rs1 : ℕ) (x : Operand) (w : ℕ) → long_word 2 rd 56 rs1 x ≡ Ok w → instruction_of w ≡ Jmpl rd rs1 x
unfolding long_word unused_set format2_of
jmpl_back rd rs1 x w e =
    let l = front_read 2 rd 56 rs1 w constant13 room_13 x (omega arith) e in
    let p = operand_13 w x l.rest in
    read_2 w rd 56 rs1 x _ (Jmpl rd rs1 x) l p.0 (λ cond. refl) p.1

wry_back : (rs1 : ℕ) (x : Operand) (w : ℕ) → wry_word rs1 x ≡ Ok w → instruction_of w ≡ Wry (sources rs1 x)
unfolding wry_word long_word unused_set wry_strays format2_of
wry_back rs1 x w e =
    let l = front_read 2 0 48 rs1 w constant13 room_13 x (omega arith) e in
    let p = operand_13 w x l.rest in
    read_2 w 0 48 rs1 x _ (Wry (sources rs1 x)) l p.0 (λ cond. refl) (rw (p.1, l.rd_is))

-- of a rdy the fields behind rd hold 0
low_fourteen : (w : ℕ) → bits w 13 1 ≡ 0 → bits w 0 13 ≡ 0 → bits w 0 14 ≡ 0
unfolding bits
low_fourteen w a b = let m = mod-pow-add (w / 1) 1 13 in omega (arith, m)

rdy_back : (rd w : ℕ) → rdy_word rd ≡ Ok w → instruction_of w ≡ Rdy rd
unfolding rdy_word long_word unused_set rdy_strays format2_of
rdy_back rd w e =
    let l = front_read 2 rd 40 0 w constant13 room_13 (Register 0) (omega arith) e in
    let s = l.rest in
    read_2 w rd 40 0 (Register 0) _ (Rdy rd) l (register_read w 0 s).0 (λ cond. refl)
    (rw (l.rs1_is, low_fourteen w s.0.here (low_five w 0 s.1.0.here s.1.1.0.here)))

load_back : (o : LoadOperation) (rd rs1 : ℕ) (x : Operand) (w : ℕ) → long_word 3 rd (load_op3 o) rs1 x ≡ Ok w → instruction_of w ≡ Load o rd rs1 x
unfolding long_word unused_set
load_back o rd rs1 x w e =
    let l = front_read 3 rd (load_op3 o) rs1 w constant13 room_13 x (omega arith) e in
    let p = operand_13 w x l.rest in
    read_3 w rd _ rs1 x _ _ l p.0 (load_row o rd rs1 x) p.1

store_back : (m : Width) (rd rs1 : ℕ) (x : Operand) (w : ℕ) → long_word 3 rd (store_op3 m) rs1 x ≡ Ok w → instruction_of w ≡ Store m rd rs1 x
unfolding long_word unused_set
store_back m rd rs1 x w e =
    let l = front_read 3 rd (store_op3 m) rs1 w constant13 room_13 x (omega arith) e in
    let p = operand_13 w x l.rest in
    read_3 w rd _ rs1 x _ _ l p.0 (store_row m rd rs1 x) p.1

shift_back : (o : ShiftOperation) (rd rs1 : ℕ) (x : Operand) (w : ℕ) → shift_word rd (shift_op3 o) rs1 x ≡ Ok w → instruction_of w ≡ Shift o rd rs1 x
unfolding shift_word unused_set
shift_back o rd rs1 x w e =
    let l = front_read 2 rd (shift_op3 o) rs1 w constant5 room_5 x (omega arith) e in
    let p = operand_5 w x l.rest in
    read_2 w rd _ rs1 x _ _ l p.0 (λ cond. shift_row o cond rd rs1 x) p.1

trap_back : (cond rs1 : ℕ) (x : Operand) (w : ℕ) → trap_word cond rs1 x ≡ Ok w → instruction_of w ≡ Ticc cond rs1 x
unfolding trap_word instruction_of by_format format2_of strictly unused_set
trap_back cond rs1 x w e =
    let t : total (operand constant7 x) ≡ 14 = fourteen constant7 room_7 x in
    let p = joined_holds (plain 1 0 ∷ plain 4 cond ∷ plain 6 58 ∷ plain 5 rs1 ∷ operand constant7 x) 2 2 w
    (plain_sound 1 0, (plain_sound 4 cond, (plain_sound 6 58, (plain_sound 5 rs1, operand_sound constant7 room_7 x)))) (omega arith) (rw t (omega arith)) e in
    let q = operand_7 w x p.1.1.1.1.1 in
    let a : bits w 29 1 ≡ 0 = rw t at p.1.0.here in
    let b : bits w 25 4 ≡ cond = rw t at p.1.1.0.here in
    let c : bits w 19 6 ≡ 58 = rw t at p.1.1.1.0.here in
    let d : bits w 14 5 ≡ rs1 = rw t at p.1.1.1.1.0.here in
    rw (top w 2 (rw t at p.0) (omega arith), c, b, d, q.0, q.1, bit_not w 29 a, q.2)

sethi_back : (rd imm w : ℕ) → sethi_word rd imm ≡ Ok w → instruction_of w ≡ Sethi rd imm
unfolding sethi_word instruction_of by_format format0_of strictly unused_set
sethi_back rd imm w e =
    let fs : List Field = plain 5 rd ∷ plain 3 4 ∷ plain 22 imm ∷ [] in
    let p = joined_holds fs 0 2 w (plain_sound 5 rd, (plain_sound 3 4, (plain_sound 22 imm, tt))) (omega arith) (omega arith) e in
    rw (top w 0 p.0 (omega arith), p.1.1.0.here, p.1.0.here, p.1.1.1.0.here)

bit_back : (w n : ℕ) (b : Bool) → bits w n 1 ≡ bit_of b → bit_set w n ≡ b
unfolding bit_of
bit_back w n true e = bit_is w n e
bit_back w n false e = bit_not w n e

branch_back : (cond : ℕ) (annul : Bool) (disp w : ℕ) → branch_word cond annul disp ≡ Ok w → instruction_of w ≡ Bicc cond annul disp
unfolding branch_word instruction_of by_format format0_of strictly unused_set
branch_back cond annul disp w e =
    let fs : List Field = plain 1 (bit_of annul) ∷ plain 4 cond ∷ plain 3 2 ∷ with_sign 22 disp ∷ [] in
    let p = joined_holds fs 0 2 w (plain_sound 1 (bit_of annul), (plain_sound 4 cond, (plain_sound 3 2, (sign_sound 22 disp, tt)))) (omega arith) (omega arith) e in
    let s = p.1.1.1.1.0 in
    let b : signed 22 (bits w 0 22) ≡ disp = rw s.here (fits_read 22 2097152 1023 refl refl refl (omega arith) disp s.fitting) in
    rw (top w 0 p.0 (omega arith), p.1.1.1.0.here, p.1.1.0.here, bit_back w 29 annul p.1.0.here, b)

call_back : (disp w : ℕ) → call_word disp ≡ Ok w → instruction_of w ≡ Call disp
unfolding call_word instruction_of by_format strictly unused_set
call_back disp w e =
    let fs : List Field = with_sign 30 disp ∷ [] in
    let p = joined_holds fs 1 2 w (sign_sound 30 disp, tt) (omega arith) (omega arith) e in
    let b : signed 30 (bits w 0 30) ≡ disp = rw p.1.0.here (fits_read 30 536870912 3 refl refl refl (omega arith) disp p.1.0.fitting) in
    rw (top w 1 p.0 (omega arith), b)

pub reads_back : ReadsBack
unfolding written_of
reads_back Illegal w e = absurd (let o : ◌≡◌ {A = ℕ} 0 1 = cc in omega arith)
reads_back (Call disp) w e = call_back disp w e
reads_back (Sethi rd imm) w e = sethi_back rd imm w e
reads_back (Bicc cond annul disp) w e = branch_back cond annul disp w e
reads_back (Arithmetic o cc rd rs1 x) w e = arithmetic_back o cc rd rs1 x w e
reads_back (Jmpl rd rs1 x) w e = jmpl_back rd rs1 x w e
reads_back (Ticc cond rs1 x) w e = trap_back cond rs1 x w e
reads_back (Load o rd rs1 x) w e = load_back o rd rs1 x w e
reads_back (Store m rd rs1 x) w e = store_back m rd rs1 x w e
reads_back (Shift o rd rs1 x) w e = shift_back o rd rs1 x w e
reads_back (Rdy rd) w e = rdy_back rd w e
reads_back (Wry s) w e = wry_back s.rs1 s.operand w e
reads_back (Window o rd rs1 x) w e = window_back o rd rs1 x w e

-- ---- a known word is written again

-- a field as it was cut from the word, one whose bits are known, and a signed one
cut_has : (w low n : ℕ) → Has w low (plain n (bits w low n))
unfolding bits
cut_has w low n = record { fitting = lt-ltb _ _ (mod-lt (w / 2 ^ low) (pow_pos n)); here = refl }

known_has : (w low n v : ℕ) → bits w low n ≡ v → Has w low (plain n v)
known_has w low n v e = rw e at (cut_has w low n)

pub in_bits : (w low n : ℕ) → bits w low n < 2 ^ n
unfolding bits
in_bits w low n = mod-lt (w / 2 ^ low) (pow_pos n)

sign_13 : (w : ℕ) → Has w 0 (with_sign 13 (signed 13 (bits w 0 13)))
sign_13 w = let r = read_fits 13 4096 524287 refl refl refl (omega arith) (bits w 0 13) (in_bits w 0 13) in record { fitting = r.0; here = sym r.1 }

sign_22 : (w : ℕ) → Has w 0 (with_sign 22 (signed 22 (bits w 0 22)))
sign_22 w = let r = read_fits 22 2097152 1023 refl refl refl (omega arith) (bits w 0 22) (in_bits w 0 22) in record { fitting = r.0; here = sym r.1 }

sign_30 : (w : ℕ) → Has w 0 (with_sign 30 (signed 30 (bits w 0 30)))
sign_30 w = let r = read_fits 30 536870912 3 refl refl refl (omega arith) (bits w 0 30) (in_bits w 0 30) in record { fitting = r.0; here = sym r.1 }

one_or_zero : (w n : ℕ) (b : Bool) → bit_set w n ≡ b → bits w n 1 ≡ bit_of b
unfolding bit_set bit_of bits
one_or_zero w n true e = eqb-true (w / 2 ^ n % 2) 1 e
one_or_zero w n false e = let h = eqb-false (w / 2 ^ n % 2) 1 e in omega arith

-- what the tests leave
all_clear : (w n k : ℕ) → not (eqb (bits w n k) 0) ≡ false → bits w n k ≡ 0
all_clear w n k h = go (eqb (bits w n k) 0) refl h
  where
    go : (b : Bool) → eqb (bits w n k) 0 ≡ b → not b ≡ false → bits w n k ≡ 0
    go true e h = eqb-true (bits w n k) 0 e
    go false e h = absurd (false≢true (sym h))

low_clear : (w : ℕ) → bits w 0 14 ≡ 0 → (bits w 13 1 ≡ 0) × (bits w 5 8 ≡ 0) × (bits w 0 5 ≡ 0)
unfolding bits
low_clear w e = (omega arith, omega arith, omega arith)

register_clear : (w : ℕ) → bit_set w 13 ≡ false → register_strays w ≡ false → bits w 5 8 ≡ 0
unfolding register_strays set_from
register_clear w t u = all_clear w 5 8 (rw t at u)

register_again : (w : ℕ) → bit_set w 13 ≡ false → bits w 5 8 ≡ 0 → Holds w (plain 1 0 ∷ plain 8 0 ∷ plain 5 (bits w 0 5) ∷ [])
unfolding bit_of
register_again w t u = (known_has w 13 1 0 (one_or_zero w 13 false t), (known_has w 5 8 0 u, (cut_has w 0 5, tt)))

again_13 : (w : ℕ) → register_strays w ≡ false → Holds w (operand constant13 (operand_of w))
unfolding operand_of bit_of
again_13 w u = go (bit_set w 13) refl
  where
    go : (b : Bool) → bit_set w 13 ≡ b → Holds w (operand constant13 (pick b (Constant (signed 13 (bits w 0 13))) (Register (bits w 0 5))))
    go true t = (known_has w 13 1 1 (one_or_zero w 13 true t), (sign_13 w, tt))
    go false t = register_again w t (register_clear w t u)

again_5 : (w : ℕ) → bits w 5 8 ≡ 0 → Holds w (operand constant5 (operand_of w))
unfolding operand_of bit_of
again_5 w u = go (bit_set w 13) refl
  where
    go : (b : Bool) → bit_set w 13 ≡ b → Holds w (operand constant5 (pick b (Constant (signed 13 (bits w 0 13))) (Register (bits w 0 5))))
    go true t =
        let i : bits w 0 5 < 32 = in_bits w 0 5 in
        let c : signed 13 (bits w 0 13) ≡ bits w 0 5 = rw (low_five w (bits w 0 5) u refl) (not_signed (bits w 0 5) (omega arith)) in
        rw c (known_has w 13 1 1 (one_or_zero w 13 true t), (known_has w 5 8 0 u, (cut_has w 0 5, tt)))
    go false t = register_again w t u

again_7 : (w : ℕ) → register_strays w ≡ false → bits w 7 6 ≡ 0 → Holds w (operand constant7 (operand_of w))
unfolding operand_of bit_of
again_7 w u v = go (bit_set w 13) refl
  where
    go : (b : Bool) → bit_set w 13 ≡ b → Holds w (operand constant7 (pick b (Constant (signed 13 (bits w 0 13))) (Register (bits w 0 5))))
    go true t =
        let i : bits w 0 7 < 128 = in_bits w 0 7 in
        let c : signed 13 (bits w 0 13) ≡ bits w 0 7 = rw (low_seven w (bits w 0 7) v refl) (not_signed (bits w 0 7) (omega arith)) in
        rw c (known_has w 13 1 1 (one_or_zero w 13 true t), (known_has w 7 6 0 v, (cut_has w 0 7, tt)))
    go false t = register_again w t (register_clear w t u)

top_is : (w op : ℕ) → w < 2 ^ 32 → bits w 30 2 ≡ op → w / 2 ^ 30 ≡ op
unfolding bits
top_is w op h e = omega arith

module _ (w : ℕ) (h : w < 2 ^ 32) where
  -- fields behind the two bits of the format
  again : (fs : List Field) (op : ℕ) → total fs ≡ 30 → bits w 30 2 ≡ op → Holds w fs → joined (Ok op) fs ≡ Ok w
  again fs op t e s = rw (t, top_is w op h e) at (joined_back fs w h s)

  front_again : (op op3 : ℕ) (c : ℕ → List Field) → Room c → bits w 30 2 ≡ op → bits w 19 6 ≡ op3 → Holds w (operand c (operand_of w))
      → joined (Ok op) (plain 5 (bits w 25 5) ∷ plain 6 op3 ∷ plain 5 (bits w 14 5) ∷ operand c (operand_of w)) ≡ Ok w
  front_again op op3 c r e f s =
      let t : total (operand c (operand_of w)) ≡ 14 = fourteen c r (operand_of w) in
      again (plain 5 (bits w 25 5) ∷ plain 6 op3 ∷ plain 5 (bits w 14 5) ∷ operand c (operand_of w)) op (rw t) e
      (rw t (cut_has w 25 5), (rw t (known_has w 19 6 op3 f), (rw t (cut_has w 14 5), s)))

  trap_again : bits w 30 2 ≡ 2 → bits w 19 6 ≡ 58 → unused_set (Ticc (bits w 25 4) (bits w 14 5) (operand_of w)) w ≡ false
      → trap_word (bits w 25 4) (bits w 14 5) (operand_of w) ≡ Ok w
  unfolding trap_word unused_set set_from bit_of
  trap_again e f u =
      let p = or_clear (register_strays w) (bit_set w 29 || set_from 7 w) u in
      let q = or_clear (bit_set w 29) (set_from 7 w) p.1 in
      let t : total (operand constant7 (operand_of w)) ≡ 14 = fourteen constant7 room_7 (operand_of w) in
      again (plain 1 0 ∷ plain 4 (bits w 25 4) ∷ plain 6 58 ∷ plain 5 (bits w 14 5) ∷ operand constant7 (operand_of w)) 2 (rw t) e
      (rw t (known_has w 29 1 0 (one_or_zero w 29 false q.0)), (rw t (cut_has w 25 4), (rw t (known_has w 19 6 58 f), (rw t (cut_has w 14 5), again_7 w p.0 (all_clear w 7 6 q.1)))))

  -- each format: a row, with no unused bit set, is written as the word it was read from
  abbrev Again : Instruction → Type 0
  Again i = unused_set i w ≡ false → (i ≡ Illegal → ⊥) → written_of i ≡ Ok w

  again_0 : bits w 30 2 ≡ 0 → Again (format0_of w)
  unfolding format0_of written_of sethi_word branch_word
  again_0 e =
      found_all (λ (key : ℕ) (i : Instruction). bits w 22 3 ≡ key → Again i) (rows0 w) Illegal (bits w 22 3) (branch, (sethi, tt)) (λ f u n. absurd (n refl)) refl
    where
      branch : bits w 22 3 ≡ 2 → Again (Bicc (bits w 25 4) (bit_set w 29) (signed 22 (bits w 0 22)))
      branch f u n =
          again (plain 1 (bit_of (bit_set w 29)) ∷ plain 4 (bits w 25 4) ∷ plain 3 2 ∷ with_sign 22 (signed 22 (bits w 0 22)) ∷ []) 0 refl e
          (known_has w 29 1 (bit_of (bit_set w 29)) (one_or_zero w 29 (bit_set w 29) refl), (cut_has w 25 4, (known_has w 22 3 2 f, (sign_22 w, tt))))

      sethi : bits w 22 3 ≡ 4 → Again (Sethi (bits w 25 5) (bits w 0 22))
      sethi f u n =
          again (plain 5 (bits w 25 5) ∷ plain 3 4 ∷ plain 22 (bits w 0 22) ∷ []) 0 refl e
          (cut_has w 25 5, (known_has w 22 3 4 f, (cut_has w 0 22, tt)))

  again_1 : bits w 30 2 ≡ 1 → written_of (Call (signed 30 (bits w 0 30))) ≡ Ok w
  unfolding written_of call_word
  again_1 e = again (with_sign 30 (signed 30 (bits w 0 30)) ∷ []) 1 refl e (sign_30 w, tt)

  again_2 : bits w 30 2 ≡ 2 → Again (format2_of (bits w 19 6) (bits w 25 4) (bits w 25 5) (bits w 14 5) (operand_of w))
  unfolding format2_of written_of unused_set arithmetic_op3 shift_op3 window_op3 long_word shift_word rdy_word wry_word set_from rdy_strays wry_strays
  again_2 e =
      found_all (λ (key : ℕ) (f : Format2). bits w 19 6 ≡ key → Again (f (bits w 25 4) (bits w 25 5) (bits w 14 5) (operand_of w))) rows2 none2 (bits w 19 6)
      (long 0, (long 1, (long 2, (long 3, (long 4, (long 5, (long 6, (long 7, (long 8, (long 10, (long 11, (long 12, (long 16, (long 17, (long 18, (long 19, (long 20, (long 21, (long 22, (long 23, (long 24, (long 26, (long 27, (long 28, (shift 37, (shift 38, (shift 39, (rdy, (wry, (long 56, (λ f u n. trap_again e f u, (long 60, (long 61, tt)))))))))))))))))))))))))))))))))
      (λ f u n. absurd (n refl)) refl
    where
      long : {B : Type 0} (key : ℕ) → bits w 19 6 ≡ key → register_strays w ≡ false → B → long_word 2 (bits w 25 5) key (bits w 14 5) (operand_of w) ≡ Ok w
      long key f u n = front_again 2 key constant13 room_13 e f (again_13 w u)

      rdy : {B : Type 0} → bits w 19 6 ≡ 40 → rdy_strays w ≡ false → B → long_word 2 (bits w 25 5) 40 0 (Register 0) ≡ Ok w
      rdy f u n =
          let p = or_clear (not (eqb (bits w 14 5) 0)) (not (eqb (bits w 0 14) 0)) u in
          let z = low_clear w (all_clear w 0 14 p.1) in
          again (plain 5 (bits w 25 5) ∷ plain 6 40 ∷ plain 5 0 ∷ plain 1 0 ∷ plain 8 0 ∷ plain 5 0 ∷ []) 2 refl e
          (cut_has w 25 5, (known_has w 19 6 40 f, (known_has w 14 5 0 (all_clear w 14 5 p.0), (known_has w 13 1 0 z.0, (known_has w 5 8 0 z.1, (known_has w 0 5 0 z.2, tt))))))

      wry : {B : Type 0} → bits w 19 6 ≡ 48 → register_strays w || wry_strays w ≡ false → B → long_word 2 0 48 (bits w 14 5) (operand_of w) ≡ Ok w
      wry f u n =
          let p = or_clear (register_strays w) (not (eqb (bits w 25 5) 0)) u in
          rw (all_clear w 25 5 p.1) at (front_again 2 48 constant13 room_13 e f (again_13 w p.0))

      shift : {B : Type 0} (key : ℕ) → bits w 19 6 ≡ key → set_from 5 w ≡ false → B → shift_word (bits w 25 5) key (bits w 14 5) (operand_of w) ≡ Ok w
      shift key f u n = front_again 2 key constant5 room_5 e f (again_5 w (all_clear w 5 8 u))

  again_3 : bits w 30 2 ≡ 3 → Again (format3_of (bits w 19 6) (bits w 25 5) (bits w 14 5) (operand_of w))
  unfolding format3_of written_of unused_set load_op3 store_op3 long_word
  again_3 e =
      found_all (λ (key : ℕ) (f : Format3). bits w 19 6 ≡ key → Again (f (bits w 25 5) (bits w 14 5) (operand_of w))) rows3 none3 (bits w 19 6)
      (long 0, (long 1, (long 2, (long 4, (long 5, (long 6, (long 9, (long 10, tt)))))))) (λ f u n. absurd (n refl)) refl
    where
      long : {B : Type 0} (key : ℕ) → bits w 19 6 ≡ key → register_strays w ≡ false → B → long_word 3 (bits w 25 5) key (bits w 14 5) (operand_of w) ≡ Ok w
      long key f u n = front_again 3 key constant13 room_13 e f (again_13 w u)

-- what is read strictly and is not illegal was read with no unused bit set
was_strict : (w : ℕ) (i : Instruction) → (strictly w i ≡ Illegal → ⊥) → (unused_set i w ≡ false → (i ≡ Illegal → ⊥) → written_of i ≡ Ok w)
    → written_of (strictly w i) ≡ Ok w
unfolding strictly
was_strict w i n f = go (unused_set i w) refl n
  where
    go : (t : Bool) → unused_set i w ≡ t → (pick t Illegal i ≡ Illegal → ⊥) → written_of (pick t Illegal i) ≡ Ok w
    go true e n = absurd (n refl)
    go false e n = f e n

pub writes_again : WritesAgain
unfolding instruction_of by_format
writes_again w h n = was_strict w _ n (go (bits w 30 2) refl)
  where
    go : (k : ℕ) → bits w 30 2 ≡ k → unused_set (by_format k w) w ≡ false → (by_format k w ≡ Illegal → ⊥) → written_of (by_format k w) ≡ Ok w
    go zero e = again_0 w h e
    go (suc zero) e = λ u n. again_1 w h e
    go (suc (suc zero)) e = again_2 w h e
    go (suc (suc (suc k))) e = let b : bits w 30 2 < 4 = in_bits w 30 2 in again_3 w h (omega arith)
