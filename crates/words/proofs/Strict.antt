-- Laws of the unused bits: what the reader's tests leave to test.
use Prim.Native.Nat.{ℕ, zero, suc, ◌+◌, ◌-◌, ◌^◌, ◌<◌, ◌≤◌}
use mathlib.Core.Path.{◌≡◌, refl, sym}
use mathlib.Core.Bool.{Bool, true, false, not, ◌&&◌, ◌||◌, or-true, and-false, false≢true}
use mathlib.Core.List.{List, [], ◌∷◌}
use native.Mathlib.Omega.{arith}
use lib.Dec.{eqb, leb, ltb}
use borrow.Author.Tests.{not-true, eqb-true, eqb-false, lt-ltb, le-ltb, le-leb, ltb-true, ltb-false, leb-true, leb-false}
use Rattle.numbers.specs.Number.{minus}
use Rattle.numbers.proofs.Choice.{both, either, found_passes}
use Rattle.words.specs.declared.Operand.{Operand}
use Rattle.words.specs.declared.Instruction.{Instruction}
use Rattle.words.specs.declared.Instruction.TheVariants.{Illegal, Call, Sethi, Bicc, Arithmetic, Jmpl, Ticc, Load, Store, Shift, Rdy, Wry, Window}
use Rattle.words.specs.Reader.{bits, bit_set, operand_of, rows0, format0_of, rows2, none2, format2_of, rows3, none3, format3_of, by_format, set_from, register_strays, rdy_strays, wry_strays, unused_set, strictly, instruction_of}
use Rattle.words.specs.Flow.{operand_strays, is_known}
use Rattle.words.specs.declared.Flow.{Flow}
use Rattle.words.specs.declared.Flow.TheVariants.{Faults, Continues, Traps, Calls, Branches, Jumps}
use Rattle.words.specs.contracts.Flow.{the_type as flow}
use denote.Enum.Declared.{tag_of}
use types.Run.{OneOf, miss}

-- what holds of an illegal word and of an instruction holds of what is left of it
pub left_strictly : (P : Instruction → Type 0) (word : ℕ) (i : Instruction) → P Illegal → P i → P (strictly word i)
unfolding strictly
left_strictly P word i p q = either P (unused_set i word) Illegal i p q

-- no unused bit is set
clear : (word : ℕ) (i : Instruction) → not (unused_set i word) ≡ true → i ≡ strictly word i
unfolding strictly
clear word i h = go (unused_set i word) refl h
  where
    go : (b : Bool) → unused_set i word ≡ b → not b ≡ true → i ≡ strictly word i
    go true e h = absurd (false≢true h)
    go false e h = rw e

pub clear_0 : (word : ℕ) → format0_of word ≡ strictly word (format0_of word)
unfolding format0_of unused_set
clear_0 word = clear word (format0_of word) (found_passes (λ k i. not (unused_set i word)) (rows0 word) Illegal (bits word 22 3) refl refl)

pub clear_3 : (word op3 rd rs1 : ℕ) (x : Operand) → register_strays word ≡ false → format3_of op3 rd rs1 x ≡ strictly word (format3_of op3 rd rs1 x)
unfolding format3_of unused_set
clear_3 word op3 rd rs1 x h =
    clear word (format3_of op3 rd rs1 x) (found_passes (λ k f. not (unused_set (f rd rs1 x) word)) rows3 none3 op3 (rw h) refl)

-- a bit beside a register is set: whatever the format makes of the word is illegal
abbrev illegal : Instruction → Bool
illegal Illegal = true
illegal (Call disp) = false
illegal (Sethi rd imm) = false
illegal (Bicc cond annul disp) = false
illegal (Arithmetic o cc rd rs1 x) = false
illegal (Jmpl rd rs1 x) = false
illegal (Ticc cond rs1 x) = false
illegal (Load o rd rs1 x) = false
illegal (Store w rd rs1 x) = false
illegal (Shift o rd rs1 x) = false
illegal (Rdy rd) = false
illegal (Wry s) = false
illegal (Window o rd rs1 x) = false

only_one : (i : Instruction) → illegal i ≡ true → Illegal ≡ i
only_one Illegal e = refl
only_one (Call disp) e = absurd (false≢true e)
only_one (Sethi rd imm) e = absurd (false≢true e)
only_one (Bicc cond annul disp) e = absurd (false≢true e)
only_one (Arithmetic o cc rd rs1 x) e = absurd (false≢true e)
only_one (Jmpl rd rs1 x) e = absurd (false≢true e)
only_one (Ticc cond rs1 x) e = absurd (false≢true e)
only_one (Load o rd rs1 x) e = absurd (false≢true e)
only_one (Store w rd rs1 x) e = absurd (false≢true e)
only_one (Shift o rd rs1 x) e = absurd (false≢true e)
only_one (Rdy rd) e = absurd (false≢true e)
only_one (Wry s) e = absurd (false≢true e)
only_one (Window o rd rs1 x) e = absurd (false≢true e)

register_set : (word : ℕ) → register_strays word ≡ true → set_from 5 word ≡ true
unfolding register_strays
register_set word h = (both (not (bit_set word 13)) (set_from 5 word) h).1

-- it is one of the bits that a rdy does not use
rdy_set : (word : ℕ) → set_from 5 word ≡ true → rdy_strays word ≡ true
unfolding rdy_strays set_from bits
rdy_set word h = go (eqb (bits word 0 14) 0) refl
  where
    go : (b : Bool) → eqb (bits word 0 14) 0 ≡ b → not (eqb (bits word 14 5) 0) || not b ≡ true
    go true e = let z = eqb-true (bits word 0 14) 0 e in absurd (eqb-false (bits word 5 8) 0 (not-true _ h) (omega arith))
    go false e = or-true (not (eqb (bits word 14 5) 0))

pub strays_any : (word : ℕ) → 2 ≤ bits word 30 2 → register_strays word ≡ true → Illegal ≡ instruction_of word
unfolding instruction_of by_format format2_of format3_of strictly unused_set
strays_any word l h = only_one _ (go (bits word 30 2) l)
  where
    go : (k : ℕ) → 2 ≤ k → illegal (strictly word (by_format k word)) ≡ true
    go zero l = absurd (omega arith)
    go (suc zero) l = absurd (omega arith)
    go (suc (suc zero)) l =
        found_passes (λ k f. illegal (strictly word (f (bits word 25 4) (bits word 25 5) (bits word 14 5) (operand_of word)))) rows2 none2 (bits word 19 6)
        (rw (h, register_set word h, rdy_set word (register_set word h))) refl
    go (suc (suc (suc k))) l =
        found_passes (λ k f. illegal (strictly word (f (bits word 25 5) (bits word 14 5) (operand_of word)))) rows3 none3 (bits word 19 6) (rw h) refl

-- the test of the reader of control
pub or_clear : (a b : Bool) → a || b ≡ false → (a ≡ false) × (b ≡ false)
or_clear true b e = absurd (false≢true (sym e))
or_clear false b e = (refl, e)

pub beside_none : (op3 word : ℕ) → operand_strays op3 word ≡ false → register_strays word ≡ false
unfolding operand_strays
beside_none op3 word h = (or_clear (register_strays word) _ h).0

pub shift_none : (op3 word : ℕ) → operand_strays op3 word ≡ false → 37 ≤ op3 → op3 < 40 → set_from 5 word ≡ false
unfolding operand_strays
shift_none op3 word h l u = rw (le-leb 37 op3 l, lt-ltb op3 40 u) at (or_clear (register_strays word) _ h).1

pub no_bit_high : (op3 word : ℕ) → set_from 5 word ≡ false → false ≡ operand_strays op3 word
unfolding operand_strays register_strays
no_bit_high op3 word e = rw (e, and-false (not (bit_set word 13)), and-false (leb 37 op3 && ltb op3 40))

pub constant_strays : (op3 word v : ℕ) → bit_set word 13 ≡ true → set_from 5 word ≡ true → v ≡ minus op3 37 → op3 < 2 ^ 32 → ltb v 3 ≡ operand_strays op3 word
unfolding operand_strays register_strays minus
constant_strays op3 word v e f g l = rw (e, f) (go (leb 37 op3) (ltb op3 40) refl refl)
  where
    go : (a b : Bool) → leb 37 op3 ≡ a → ltb op3 40 ≡ b → ltb v 3 ≡ (a && b) && true
    go true true p q = let i = leb-true 37 op3 p in let j = ltb-true op3 40 q in lt-ltb v 3 (omega arith)
    go true false p q = let j = ltb-false op3 40 q in le-ltb v 3 (omega arith)
    go false b p q = let i = leb-false 37 op3 p in le-ltb v 3 (omega arith)

pub register_set_strays : (op3 word : ℕ) → bit_set word 13 ≡ false → set_from 5 word ≡ true → true ≡ operand_strays op3 word
unfolding operand_strays register_strays
register_set_strays op3 word e f = rw (e, f)

-- a shift that fails it, in format 2; format 3 has no such op3
shift_strays : (word : ℕ) → 2 ≤ bits word 30 2 → (k : ℕ) → bits word 19 6 ≡ 37 + k → k < 3 → set_from 5 word ≡ true → Illegal ≡ instruction_of word
unfolding instruction_of by_format format2_of format3_of strictly unused_set
shift_strays word l k e b h = only_one _ (go (bits word 30 2) l k e b)
  where
    go : (n : ℕ) → 2 ≤ n → (k : ℕ) → bits word 19 6 ≡ 37 + k → k < 3 → illegal (strictly word (by_format n word)) ≡ true
    go zero l k e b = absurd (omega arith)
    go (suc zero) l k e b = absurd (omega arith)
    go (suc (suc zero)) l zero e b = rw (e, h)
    go (suc (suc zero)) l (suc zero) e b = rw (e, h)
    go (suc (suc zero)) l (suc (suc zero)) e b = rw (e, h)
    go (suc (suc (suc n))) l zero e b = rw e
    go (suc (suc (suc n))) l (suc zero) e b = rw e
    go (suc (suc (suc n))) l (suc (suc zero)) e b = rw e
    go (suc (suc n)) l (suc (suc (suc k))) e b = absurd (omega arith)

pub strays_flow : (word : ℕ) → 2 ≤ bits word 30 2 → operand_strays (bits word 19 6) word ≡ true → Illegal ≡ instruction_of word
unfolding operand_strays
strays_flow word l h = go (register_strays word) (leb 37 (bits word 19 6)) (ltb (bits word 19 6) 40) (set_from 5 word) refl refl refl refl h
  where
    go : (r a b s : Bool) → register_strays word ≡ r → leb 37 (bits word 19 6) ≡ a → ltb (bits word 19 6) 40 ≡ b → set_from 5 word ≡ s → r || ((a && b) && s) ≡ true
        → Illegal ≡ instruction_of word
    go true a b s e f g i h = strays_any word l e
    go false true true true e f g i h =
        let a = leb-true 37 (bits word 19 6) f in
        let b = ltb-true (bits word 19 6) 40 g in
        shift_strays word l (bits word 19 6 - 37) (omega arith) (omega arith) i
    go false true true false e f g i h = absurd (false≢true h)
    go false true false s e f g i h = absurd (false≢true h)
    go false false b s e f g i h = absurd (false≢true h)

-- a word of zeros has no bit set at all
pub nothing_set : (i : Instruction) → strictly 0 i ≡ i
unfolding strictly unused_set register_strays rdy_strays wry_strays set_from bit_set bits
nothing_set Illegal = refl
nothing_set (Call disp) = refl
nothing_set (Sethi rd imm) = refl
nothing_set (Bicc cond annul disp) = refl
nothing_set (Arithmetic o cc rd rs1 x) = refl
nothing_set (Jmpl rd rs1 x) = refl
nothing_set (Ticc cond rs1 x) = refl
nothing_set (Load o rd rs1 x) = refl
nothing_set (Store w rd rs1 x) = refl
nothing_set (Shift o rd rs1 x) = refl
nothing_set (Rdy rd) = refl
nothing_set (Wry s) = refl
nothing_set (Window o rd rs1 x) = refl

pub nothing_strays_y : (rdy_strays 0 ≡ false) × (wry_strays 0 ≡ false)
unfolding rdy_strays wry_strays bits
nothing_strays_y = (refl, refl)

pub nothing_strays : (op3 : ℕ) → operand_strays op3 0 ≡ false
unfolding set_from bits
nothing_strays op3 = sym (no_bit_high op3 0 refl)

-- the numbers are those of the variants of a flow, in the order of the enum: all but the first
abbrev others : List ℕ
others = 1 ∷ 2 ∷ 3 ∷ 4 ∷ 5 ∷ []

pub known_others : (f : Flow) → OneOf others (tag_of flow f) → true ≡ is_known f
unfolding is_known
known_others Faults k = absurd (miss others 0 tt k)
known_others Continues k = refl
known_others Traps k = refl
known_others (Calls disp) k = refl
known_others (Branches cond annul disp) k = refl
known_others (Jumps rd) k = refl
