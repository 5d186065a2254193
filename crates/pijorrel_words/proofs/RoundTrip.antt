-- The round trips on bytes, from those of instructions.
use Prim.Native.Nat.{ℕ, zero, suc, ◌+◌, ◌*◌, ◌/◌, ◌%◌, ◌^◌, ◌<◌, ◌≤◌}
use mathlib.Core.Path.{◌≡◌, refl, ap, ◌∙◌}
use mathlib.Core.Bool.{Bool, true, false, not, ◌&&◌}
use mathlib.Core.List.{List, [], ◌∷◌}
use native.Mathlib.Nat.{mod-eq_of_lt, pow-le-pow_right}
use native.Mathlib.Omega.{arith}
use lib.Dec.{eqb, leb, ltb}
use lib.ListN.{get_or}
use borrow.Author.Tests.{lt-ltb, ltb-true, leb-true, ne_eqb, eqb-true, not-true}
use Rattle.std.proofs.Common.{Ok, Err}
use Rattle.numbers.specs.Choice.{pick}
use Rattle.numbers.specs.Number.{Below, signed, number_at, bytes_of}
use Rattle.numbers.proofs.Choice.{both, either, found_passes, found_all}
use Rattle.numbers.proofs.Number.{number_packed}
use Rattle.numbers.proofs.Bounds.{number_lt, extended_lt}
use Rattle.words.proofs.Conditions.{bit_lt}
use Rattle.words.specs.Conditions.{bit_of}
use Rattle.words.specs.Reader.{bits, bit_set, operand_of, sources, rows0, format0_of, Format2, rows2, none2, format2_of, Format3, rows3, none3, format3_of, by_format, instruction_of}
use Rattle.words.specs.Writer.{Written, refusal, arithmetic_op3, shift_op3, window_op3, load_op3, store_op3, written_of}
use Rattle.words.specs.declared.Operand.{Operand}
use Rattle.words.specs.declared.Operand.TheVariants.{Register, Constant}
use Rattle.words.specs.declared.Operation.{Operation}
use Rattle.words.specs.declared.Operation.TheVariants.{Add, And, Or, Xor, Sub, Andn, Orn, Xnor, Addx, Subx, Umul, Smul}
use Rattle.words.specs.declared.ShiftOperation.{ShiftOperation}
use Rattle.words.specs.declared.ShiftOperation.TheVariants.{Sll, Srl, Sra}
use Rattle.words.specs.declared.WindowOperation.{WindowOperation}
use Rattle.words.specs.declared.WindowOperation.TheVariants.{Save, Restore}
use Rattle.words.specs.declared.LoadOperation.{LoadOperation}
use Rattle.words.specs.declared.LoadOperation.TheVariants.{Ld, Ldub, Lduh, Ldsb, Ldsh}
use Rattle.words.specs.declared.Width.{Width}
use Rattle.words.specs.declared.Width.TheVariants.{Byte, Half, Word}
use Rattle.words.specs.declared.Instruction.{Instruction}
use Rattle.words.specs.declared.Instruction.TheVariants.{Illegal, Call, Sethi, Bicc, Arithmetic, Jmpl, Ticc, Load, Store, Shift, Rdy, Wry, Window}
use Rattle.words.proofs.Strict.{left_strictly}
use Rattle.words.proofs.RoundTrip.{in_bits, reads_back, writes_again}
use Rattle.pijorrel_words.specs.Forms.{with_operand, six_of, operand_from, by_op, forms, instruction_from, answer_of, writes, reads}
use Rattle.pijorrel_words.specs.RoundTrip.{counted, has_operand, normal_of, normal, ReadsBack, WritesAgain}

-- ---- six numbers that are written

-- the second operand of a form that has one; a wry has no rd
operand_normal : (form annul rd rs1 mark v : ℕ) → has_operand form ≡ true → v < 2 ^ 32
    → with_operand form (pick (eqb form 176) 0 rd) rs1 (operand_from mark v) ≡ normal_of form annul rd rs1 mark v
unfolding with_operand operand_from normal_of has_operand counted bit_of
operand_normal form annul rd rs1 mark v h l =
    let p = both (leb 128 form) (not (eqb form 168)) h in
    let f : 128 ≤ form = leb-true 128 form p.0 in
    rw (ne_eqb form 2 (λ e. omega arith), ne_eqb form 64 (λ e. omega arith), p.0, not-true (eqb form 168) p.1) (go (eqb mark 0))
  where
    go : (b : Bool) → with_operand form (pick (eqb form 176) 0 rd) rs1 (pick b (Register v) (Constant v)) ≡ form ∷ 0 ∷ pick (eqb form 176) 0 rd ∷ rs1 ∷ bit_of (not b) ∷ v ∷ []
    go true = rw (mod-eq_of_lt l)
    go false = refl

rdy_normal : (form annul rd rs1 mark v : ℕ) → form ≡ 168 → 168 ∷ 0 ∷ rd ∷ 0 ∷ 0 ∷ 0 ∷ [] ≡ normal_of form annul rd rs1 mark v
unfolding normal_of has_operand
rdy_normal form annul rd rs1 mark v e = rw e

module _ (form annul rd rs1 mark v : ℕ) (l : v < 2 ^ 32) where
  abbrev Normal : Instruction → Type 0
  Normal i = (i ≡ Illegal → ⊥) → six_of i ≡ normal_of form annul rd rs1 mark v

  row : {B : Type 0} (n key : ℕ) → form ≡ n * 64 + form % 64 → has_operand (n * 64 + key) ≡ true → form % 64 ≡ key → B
      → with_operand (n * 64 + key) (pick (eqb (n * 64 + key) 176) 0 rd) rs1 (operand_from mark v) ≡ normal_of form annul rd rs1 mark v
  row n key e h f b =
      let g : n * 64 + key ≡ form = omega arith in
      rw g (operand_normal form annul rd rs1 mark v (rw g at h) l)

  by_op_lem : (a b : Bool) → eqb (form / 64) 2 ≡ a → eqb (form / 64) 3 ≡ b
      → Normal (pick a (format2_of (form % 64) rd rd rs1 (operand_from mark v)) (pick b (format3_of (form % 64) rd rs1 (operand_from mark v)) Illegal))
  unfolding format2_of format3_of six_of arithmetic_op3 shift_op3 window_op3 load_op3 store_op3 has_operand
  by_op_lem true b p q =
      let h : form / 64 ≡ 2 = eqb-true (form / 64) 2 p in
      let e : form ≡ 2 * 64 + form % 64 = omega arith in
      found_all (λ (key : ℕ) (f : Format2). form % 64 ≡ key → Normal (f rd rd rs1 (operand_from mark v))) rows2 none2 (form % 64)
      (r e 0 refl, (r e 1 refl, (r e 2 refl, (r e 3 refl, (r e 4 refl, (r e 5 refl, (r e 6 refl, (r e 7 refl, (r e 8 refl, (r e 10 refl, (r e 11 refl, (r e 12 refl, (r e 16 refl, (r e 17 refl, (r e 18 refl, (r e 19 refl, (r e 20 refl, (r e 21 refl, (r e 22 refl, (r e 23 refl, (r e 24 refl, (r e 26 refl, (r e 27 refl, (r e 28 refl, (r e 37 refl, (r e 38 refl, (r e 39 refl, (λ f n. rdy_normal form annul rd rs1 mark v (omega arith), (r e 48 refl, (r e 56 refl, (r e 58 refl, (r e 60 refl, (r e 61 refl, tt)))))))))))))))))))))))))))))))))
      (λ f n. absurd (n refl)) refl
    where
      r : {B : Type 0} → form ≡ 2 * 64 + form % 64 → (key : ℕ) → has_operand (2 * 64 + key) ≡ true → form % 64 ≡ key → B
          → with_operand (2 * 64 + key) (pick (eqb (2 * 64 + key) 176) 0 rd) rs1 (operand_from mark v) ≡ normal_of form annul rd rs1 mark v
      r e key h f b = row 2 key e h f b
  by_op_lem false true p q =
      let h : form / 64 ≡ 3 = eqb-true (form / 64) 3 q in
      let e : form ≡ 3 * 64 + form % 64 = omega arith in
      found_all (λ (key : ℕ) (f : Format3). form % 64 ≡ key → Normal (f rd rs1 (operand_from mark v))) rows3 none3 (form % 64)
      (r e 0 refl, (r e 1 refl, (r e 2 refl, (r e 4 refl, (r e 5 refl, (r e 6 refl, (r e 9 refl, (r e 10 refl, tt)))))))) (λ f n. absurd (n refl)) refl
    where
      r : {B : Type 0} → form ≡ 3 * 64 + form % 64 → (key : ℕ) → has_operand (3 * 64 + key) ≡ true → form % 64 ≡ key → B
          → with_operand (3 * 64 + key) (pick (eqb (3 * 64 + key) 176) 0 rd) rs1 (operand_from mark v) ≡ normal_of form annul rd rs1 mark v
      r e key h f b = row 3 key e h f b
  by_op_lem false false p q = λ n. absurd (n refl)

  six_normal : Normal (instruction_from form annul rd rs1 mark v)
  unfolding instruction_from by_op six_of normal_of has_operand counted
  six_normal =
      found_all (λ (key : ℕ) (i : Instruction). form ≡ key → Normal i) (forms annul rd v) (by_op form rd rs1 (operand_from mark v)) form
      (λ e n. rw e, (λ e n. rw e, (λ e n. rw e, tt)))
      (λ e. by_op_lem (eqb (form / 64) 2) (eqb (form / 64) 3) refl refl) refl

-- an answer that is a word
fit_of : (w : Written) (word : ℕ) → answer_of w ≡ 0 ∷ word ∷ [] → w ≡ Ok word
unfolding answer_of
fit_of (Ok k) word e = let h : k ≡ word = cc in rw h
fit_of (Err n) word e = absurd (let h : ◌≡◌ {A = ℕ} 7 0 = cc in omega arith)

not_illegal : (i : Instruction) (word : ℕ) → written_of i ≡ Ok word → i ≡ Illegal → ⊥
unfolding written_of
not_illegal i word e f = let g : refusal 0 ≡ Ok word = rw f at e in let h : ◌≡◌ {A = ℕ} 0 1 = cc in omega arith

pub reads_normal : ReadsBack
unfolding writes reads normal
reads_normal s word b e =
    let f = fit_of _ word e in
    rw (reads_back _ word f)
    (ap bytes_of (six_normal (number_at s 0) (number_at s 4) (number_at s 8) (number_at s 12) (number_at s 16) (number_at s 20) (number_lt s 20 b) (not_illegal _ word f)))

-- ---- a word that is read

-- the numbers of an instruction that was read have 32 bits
abbrev short : ℕ → Bool
short v = ltb v (2 ^ 32)

abbrev short_operand : Operand → Bool
short_operand (Register i) = short i
short_operand (Constant k) = short k

abbrev short_all : Instruction → Bool
short_all Illegal = true
short_all (Call disp) = short disp
short_all (Sethi rd imm) = short rd && short imm
short_all (Bicc cond annul disp) = short cond && short disp
short_all (Arithmetic o cc rd rs1 x) = short rd && (short rs1 && short_operand x)
short_all (Jmpl rd rs1 x) = short rd && (short rs1 && short_operand x)
short_all (Ticc cond rs1 x) = short cond && (short rs1 && short_operand x)
short_all (Load o rd rs1 x) = short rd && (short rs1 && short_operand x)
short_all (Store w rd rs1 x) = short rd && (short rs1 && short_operand x)
short_all (Shift o rd rs1 x) = short rd && (short rs1 && short_operand x)
short_all (Rdy rd) = short rd
short_all (Wry s) = short s.rs1 && short_operand s.operand
short_all (Window o rd rs1 x) = short rd && (short rs1 && short_operand x)

-- a field that was cut, and one whose sign was extended
cut_short : (word low n : ℕ) → n ≤ 32 → short (bits word low n) ≡ true
cut_short word low n h =
    let a = in_bits word low n in
    let b : 2 ^ n ≤ 2 ^ 32 = pow-le-pow_right (omega arith) h in
    lt-ltb (bits word low n) (2 ^ 32) (omega arith)

signed_short : (n v : ℕ) → v < 2 ^ n → n ≤ 32 → short (signed n v) ≡ true
signed_short n v h l = lt-ltb (signed n v) (2 ^ 32) (extended_lt n v h (pow-le-pow_right (omega arith) l))

operand_short : (word : ℕ) → short_operand (operand_of word) ≡ true
unfolding operand_of bits
operand_short word =
    either (λ (x : Operand). short_operand x ≡ true) (bit_set word 13) (Constant (signed 13 (word / 2 ^ 0 % 2 ^ 13))) (Register (word / 2 ^ 0 % 2 ^ 5))
    (signed_short 13 (word / 2 ^ 0 % 2 ^ 13) (omega arith) (omega arith)) (cut_short word 0 5 (omega arith))

format_short : (k word : ℕ) → short_all (by_format k word) ≡ true
unfolding by_format format0_of format2_of format3_of
format_short zero word =
    found_passes (λ k i. short_all i) (rows0 word) Illegal (bits word 22 3)
    (rw (cut_short word 25 4 (omega arith), cut_short word 25 5 (omega arith), cut_short word 0 22 (omega arith), signed_short 22 (bits word 0 22) (in_bits word 0 22) (omega arith))) refl
format_short (suc zero) word = signed_short 30 (bits word 0 30) (in_bits word 0 30) (omega arith)
format_short (suc (suc zero)) word =
    found_passes (λ k f. short_all (f (bits word 25 4) (bits word 25 5) (bits word 14 5) (operand_of word))) rows2 none2 (bits word 19 6)
    (rw (cut_short word 25 4 (omega arith), cut_short word 25 5 (omega arith), cut_short word 14 5 (omega arith), operand_short word)) refl
format_short (suc (suc (suc n))) word =
    found_passes (λ k f. short_all (f (bits word 25 5) (bits word 14 5) (operand_of word))) rows3 none3 (bits word 19 6)
    (rw (cut_short word 25 5 (omega arith), cut_short word 14 5 (omega arith), operand_short word)) refl

word_short : (word : ℕ) → short_all (instruction_of word) ≡ true
unfolding instruction_of
word_short word = left_strictly (λ (i : Instruction). short_all i ≡ true) word _ refl (format_short (bits word 30 2) word)

below : (v : ℕ) → short v ≡ true → v < 2 ^ 32
below v e = ltb-true v (2 ^ 32) e

-- six numbers, of which those of the instruction are known to be below
record Six (i : Instruction) (form annul rd rs1 mark v : ℕ) : Type 0 where
  pub same : six_of i ≡ form ∷ annul ∷ rd ∷ rs1 ∷ mark ∷ v ∷ []
  pub low : Below (2 ^ 32) (form ∷ annul ∷ rd ∷ rs1 ∷ mark ∷ v ∷ [])
  pub back : instruction_from form annul rd rs1 mark v ≡ i

-- what is packed of them is read from the bytes
six_again : (i : Instruction) (form annul rd rs1 mark v : ℕ) → Six i form annul rd rs1 mark v → writes (bytes_of (six_of i)) ≡ answer_of (written_of i)
unfolding writes
six_again i form annul rd rs1 mark v s =
    let l : List ℕ = form ∷ annul ∷ rd ∷ rs1 ∷ mark ∷ v ∷ [] in
    let at : (k : ℕ) → k < 6 → number_at (bytes_of l) (4 * k) ≡ get_or l k 0 = λ k h. number_packed l k (4 * k) s.low h refl in
    rw (s.same, at 0 (omega arith), at 1 (omega arith), at 2 (omega arith), at 3 (omega arith), at 4 (omega arith), at 5 (omega arith), s.back)

-- a form with a second operand is some instruction's, whatever the operand
abbrev From : ℕ → ℕ → ℕ → (Operand → Instruction) → Type 0
From form rd rs1 f = (form < 2 ^ 32) × ((mark v : ℕ) → instruction_from form 0 rd rs1 mark v ≡ f (operand_from mark v))

arithmetic_from : (o : Operation) (cc : Bool) (rd rs1 : ℕ) → From (128 + arithmetic_op3 o cc) rd rs1 (Arithmetic o cc rd rs1)
unfolding arithmetic_op3 instruction_from by_op format2_of
arithmetic_from Add true rd rs1 = (omega arith, λ mark v. refl)
arithmetic_from Add false rd rs1 = (omega arith, λ mark v. refl)
arithmetic_from And true rd rs1 = (omega arith, λ mark v. refl)
arithmetic_from And false rd rs1 = (omega arith, λ mark v. refl)
arithmetic_from Or true rd rs1 = (omega arith, λ mark v. refl)
arithmetic_from Or false rd rs1 = (omega arith, λ mark v. refl)
arithmetic_from Xor true rd rs1 = (omega arith, λ mark v. refl)
arithmetic_from Xor false rd rs1 = (omega arith, λ mark v. refl)
arithmetic_from Sub true rd rs1 = (omega arith, λ mark v. refl)
arithmetic_from Sub false rd rs1 = (omega arith, λ mark v. refl)
arithmetic_from Andn true rd rs1 = (omega arith, λ mark v. refl)
arithmetic_from Andn false rd rs1 = (omega arith, λ mark v. refl)
arithmetic_from Orn true rd rs1 = (omega arith, λ mark v. refl)
arithmetic_from Orn false rd rs1 = (omega arith, λ mark v. refl)
arithmetic_from Xnor true rd rs1 = (omega arith, λ mark v. refl)
arithmetic_from Xnor false rd rs1 = (omega arith, λ mark v. refl)
arithmetic_from Addx true rd rs1 = (omega arith, λ mark v. refl)
arithmetic_from Addx false rd rs1 = (omega arith, λ mark v. refl)
arithmetic_from Subx true rd rs1 = (omega arith, λ mark v. refl)
arithmetic_from Subx false rd rs1 = (omega arith, λ mark v. refl)
arithmetic_from Umul true rd rs1 = (omega arith, λ mark v. refl)
arithmetic_from Umul false rd rs1 = (omega arith, λ mark v. refl)
arithmetic_from Smul true rd rs1 = (omega arith, λ mark v. refl)
arithmetic_from Smul false rd rs1 = (omega arith, λ mark v. refl)

shift_from : (o : ShiftOperation) (rd rs1 : ℕ) → From (128 + shift_op3 o) rd rs1 (Shift o rd rs1)
unfolding shift_op3 instruction_from by_op format2_of
shift_from Sll rd rs1 = (omega arith, λ mark v. refl)
shift_from Srl rd rs1 = (omega arith, λ mark v. refl)
shift_from Sra rd rs1 = (omega arith, λ mark v. refl)

load_from : (o : LoadOperation) (rd rs1 : ℕ) → From (192 + load_op3 o) rd rs1 (Load o rd rs1)
unfolding load_op3 instruction_from by_op format3_of
load_from Ld rd rs1 = (omega arith, λ mark v. refl)
load_from Ldub rd rs1 = (omega arith, λ mark v. refl)
load_from Lduh rd rs1 = (omega arith, λ mark v. refl)
load_from Ldsb rd rs1 = (omega arith, λ mark v. refl)
load_from Ldsh rd rs1 = (omega arith, λ mark v. refl)

store_from : (w : Width) (rd rs1 : ℕ) → From (192 + store_op3 w) rd rs1 (Store w rd rs1)
unfolding store_op3 instruction_from by_op format3_of
store_from Byte rd rs1 = (omega arith, λ mark v. refl)
store_from Half rd rs1 = (omega arith, λ mark v. refl)
store_from Word rd rs1 = (omega arith, λ mark v. refl)

window_from : (o : WindowOperation) (rd rs1 : ℕ) → From (128 + window_op3 o) rd rs1 (Window o rd rs1)
unfolding window_op3 instruction_from by_op format2_of
window_from Save rd rs1 = (omega arith, λ mark v. refl)
window_from Restore rd rs1 = (omega arith, λ mark v. refl)

jmpl_from : (rd rs1 : ℕ) → From 184 rd rs1 (Jmpl rd rs1)
unfolding instruction_from by_op format2_of
jmpl_from rd rs1 = (omega arith, λ mark v. refl)

trap_from : (cond rs1 : ℕ) → From 186 cond rs1 (Ticc cond rs1)
unfolding instruction_from by_op format2_of
trap_from cond rs1 = (omega arith, λ mark v. refl)

wry_from : (rs1 : ℕ) → From 176 0 rs1 (λ x. Wry (sources rs1 x))
unfolding instruction_from by_op format2_of
wry_from rs1 = (omega arith, λ mark v. refl)

rdy_from : (rd : ℕ) → instruction_from 168 0 rd 0 0 0 ≡ Rdy rd
unfolding instruction_from by_op format2_of
rdy_from rd = refl

operand_again : (f : Operand → Instruction) (form rd rs1 : ℕ) (x : Operand) → From form rd rs1 f → six_of (f x) ≡ with_operand form rd rs1 x
    → short rd && (short rs1 && short_operand x) ≡ true → writes (bytes_of (six_of (f x))) ≡ answer_of (written_of (f x))
unfolding with_operand operand_from
operand_again f form rd rs1 (Register r) g e h =
    let p = both (short rd) _ h in
    let q = both (short rs1) _ p.1 in
    six_again (f (Register r)) form 0 rd rs1 0 r (record {
      same = rw (mod-eq_of_lt (below r q.1)) at e;
      low = (g.0, (omega arith, (below rd p.0, (below rs1 q.0, (omega arith, (below r q.1, tt))))));
      back = g.1 0 r;
    })
operand_again f form rd rs1 (Constant k) g e h =
    let p = both (short rd) _ h in
    let q = both (short rs1) _ p.1 in
    six_again (f (Constant k)) form 0 rd rs1 1 k (record {
      same = e;
      low = (g.0, (omega arith, (below rd p.0, (below rs1 q.0, (omega arith, (below k q.1, tt))))));
      back = g.1 1 k;
    })

annul_again : (cond disp : ℕ) (annul : Bool) → instruction_from 2 (bit_of annul) cond 0 0 disp ≡ Bicc cond annul disp
unfolding instruction_from bit_of
annul_again cond disp true = refl
annul_again cond disp false = refl

each_again : (i : Instruction) → (i ≡ Illegal → ⊥) → short_all i ≡ true → writes (bytes_of (six_of i)) ≡ answer_of (written_of i)
unfolding six_of instruction_from
each_again Illegal n h = absurd (n refl)
each_again (Call disp) n h =
    six_again (Call disp) 64 0 0 0 0 disp
    (record { same = refl; low = (omega arith, (omega arith, (omega arith, (omega arith, (omega arith, (below disp h, tt)))))); back = refl })
each_again (Sethi rd imm) n h =
    let p = both (short rd) (short imm) h in
    six_again (Sethi rd imm) 4 0 rd 0 0 imm
    (record { same = refl; low = (omega arith, (omega arith, (below rd p.0, (omega arith, (omega arith, (below imm p.1, tt)))))); back = refl })
each_again (Bicc cond annul disp) n h =
    let p = both (short cond) (short disp) h in
    six_again (Bicc cond annul disp) 2 (bit_of annul) cond 0 0 disp
    (record { same = refl; low = (omega arith, (omega (arith, bit_lt annul), (below cond p.0, (omega arith, (omega arith, (below disp p.1, tt)))))); back = annul_again cond disp annul })
each_again (Arithmetic o cc rd rs1 x) n h = operand_again (Arithmetic o cc rd rs1) _ rd rs1 x (arithmetic_from o cc rd rs1) refl h
each_again (Jmpl rd rs1 x) n h = operand_again (Jmpl rd rs1) _ rd rs1 x (jmpl_from rd rs1) refl h
each_again (Ticc cond rs1 x) n h = operand_again (Ticc cond rs1) _ cond rs1 x (trap_from cond rs1) refl h
each_again (Load o rd rs1 x) n h = operand_again (Load o rd rs1) _ rd rs1 x (load_from o rd rs1) refl h
each_again (Store w rd rs1 x) n h = operand_again (Store w rd rs1) _ rd rs1 x (store_from w rd rs1) refl h
each_again (Shift o rd rs1 x) n h = operand_again (Shift o rd rs1) _ rd rs1 x (shift_from o rd rs1) refl h
each_again (Rdy rd) n h =
    six_again (Rdy rd) 168 0 rd 0 0 0
    (record { same = refl; low = (omega arith, (omega arith, (below rd h, (omega arith, (omega arith, (omega arith, tt)))))); back = rdy_from rd })
each_again (Wry s) n h = operand_again (λ x. Wry (sources s.rs1 x)) _ 0 s.rs1 s.operand (wry_from s.rs1) refl h
each_again (Window o rd rs1 x) n h = operand_again (Window o rd rs1) _ rd rs1 x (window_from o rd rs1) refl h

-- a form that is not 0 is an instruction's
known : (i : Instruction) → (number_at (bytes_of (six_of i)) 0 ≡ 0 → ⊥) → i ≡ Illegal → ⊥
unfolding six_of bytes_of number_at
known i n e = n (rw e)

pub writes_read : WritesAgain
unfolding reads answer_of
writes_read word h n =
    let k = known (instruction_of word) n in
    each_again (instruction_of word) k (word_short word) ∙ ap answer_of (writes_again word h k)
