-- Laws of words that transfer control, and of those that do not.
use Prim.Native.Nat.{ℕ, zero, suc, ◌%◌, ◌/◌, ◌^◌}
use mathlib.Core.Path.{◌≡◌, refl, ap}
use mathlib.Core.Bool.{Bool, true, false}
use mathlib.Core.List.{List}
use mathlib.Core.Option.{Option, none, some}
use native.Mathlib.Omega.{arith}
use lib.Dec.{eqb, leb}
use lib.ListN.{length}
use borrow.Author.Tests.{eqb-true, le-leb}
use Rattle.numbers.specs.Choice.{pick}
use Rattle.numbers.specs.Number.{minus, number_at}
use Rattle.numbers.proofs.Choice.{found_passes}
use Rattle.words.proofs.Strict.{left_strictly}
use Rattle.words.specs.Conditions.{holds_of}
use Rattle.words.proofs.Conditions.{conditions_all}
use Rattle.words.specs.Reader.{bits, format0_of, format2_of, format3_of, by_format, instruction_of, rows0, rows2, none2, rows3, none3, operand_of}
use Rattle.words.specs.declared.Operand.{Operand}
use Rattle.words.specs.declared.Instruction.{Instruction}
use Rattle.words.specs.declared.Instruction.TheVariants.{Illegal, Call, Sethi, Bicc, Arithmetic, Jmpl, Ticc, Load, Store, Shift, Rdy, Wry, Window}
use Rattle.machine.specs.Ends.{Ending, ending, go, halt, within}
use Rattle.machine.specs.Registers.{address_of}
use Rattle.effects.specs.Effect.{Machine, effect_of, trap_of}
use Rattle.model.specs.OldCore.{in_image, word_in, Transfer, illegal, straight, trap, call, bicc, jmpl, transfer_of}
use Rattle.model.specs.Places.{Which, never, always, depends, which_of, idle_bicc}

-- no transfer is another: told apart by their place in this order
abbrev tag : Transfer → ℕ
tag illegal = 0
tag straight = 1
tag trap = 2
tag (call disp) = 3
tag (bicc cond annul disp) = 4
tag (jmpl rd rs1 x) = 5

apart : {A : Type 0} (s t : Transfer) → (tag s ≡ tag t → ⊥) → s ≡ t → A
apart s t n e = absurd (n (ap tag e))

no_branch : {A : Type 0} (t : Bool) (cond : ℕ) (annul : Bool) (disp : ℕ) → pick t trap straight ≡ bicc cond annul disp → A
no_branch true cond annul disp e = apart trap (bicc cond annul disp) (λ q. omega arith) e
no_branch false cond annul disp e = apart straight (bicc cond annul disp) (λ q. omega arith) e

-- conditions 0 and 8
pub holds_never : (f : ℕ) → holds_of 0 f ≡ false
holds_never f = conditions_all 0 f

pub holds_always : (f : ℕ) → holds_of 8 f ≡ true
holds_always f = conditions_all 8 f

always_taken : (db cond rs1 : ℕ) (x : Operand) (m : Machine) → cond ≡ 8 → effect_of db (Ticc cond rs1 x) m ≡ halt (ending 1 (address_of m.registers rs1 x % 128))
unfolding effect_of trap_of within
always_taken db cond rs1 x m e = rw (e, holds_always m.flags)

-- "Ticc 8" is always taken
abbrev pub trap_end : Instruction → Machine → Ending
trap_end Illegal m = ending 0 0
trap_end (Call disp) m = ending 0 0
trap_end (Sethi rd imm) m = ending 0 0
trap_end (Bicc cond annul disp) m = ending 0 0
trap_end (Arithmetic o cc rd rs1 x) m = ending 0 0
trap_end (Jmpl rd rs1 x) m = ending 0 0
trap_end (Ticc cond rs1 x) m = ending 1 (address_of m.registers rs1 x % 128)
trap_end (Load o rd rs1 x) m = ending 0 0
trap_end (Store w rd rs1 x) m = ending 0 0
trap_end (Shift o rd rs1 x) m = ending 0 0
trap_end (Rdy rd) m = ending 0 0
trap_end (Wry s) m = ending 0 0
trap_end (Window o rd rs1 x) m = ending 0 0

pub trap_halts : (db : ℕ) (i : Instruction) (m : Machine) → transfer_of i ≡ trap → effect_of db i m ≡ halt (trap_end i m)
unfolding transfer_of
trap_halts db Illegal m e = apart illegal trap (λ q. omega arith) e
trap_halts db (Call disp) m e = apart (call disp) trap (λ q. omega arith) e
trap_halts db (Sethi rd imm) m e = apart straight trap (λ q. omega arith) e
trap_halts db (Bicc cond annul disp) m e = apart (bicc cond annul disp) trap (λ q. omega arith) e
trap_halts db (Arithmetic o cc rd rs1 x) m e = apart straight trap (λ q. omega arith) e
trap_halts db (Jmpl rd rs1 x) m e = apart (jmpl rd rs1 x) trap (λ q. omega arith) e
trap_halts db (Ticc cond rs1 x) m e = taken (eqb cond 8) refl e
  where
    taken : (t : Bool) → eqb cond 8 ≡ t → pick t trap straight ≡ trap → effect_of db (Ticc cond rs1 x) m ≡ halt (ending 1 (address_of m.registers rs1 x % 128))
    taken true q k = always_taken db cond rs1 x m (eqb-true cond 8 q)
    taken false q k = apart straight trap (λ z. omega arith) k
trap_halts db (Load o rd rs1 x) m e = apart straight trap (λ q. omega arith) e
trap_halts db (Store w rd rs1 x) m e = apart straight trap (λ q. omega arith) e
trap_halts db (Shift o rd rs1 x) m e = apart straight trap (λ q. omega arith) e
trap_halts db (Rdy rd) m e = apart straight trap (λ q. omega arith) e
trap_halts db (Wry s) m e = apart straight trap (λ q. omega arith) e
trap_halts db (Window o rd rs1 x) m e = apart straight trap (λ q. omega arith) e

-- a Bicc 0 without annul does nothing
pub idle_does : (db : ℕ) (i : Instruction) (m : Machine) (disp : ℕ) → transfer_of i ≡ bicc 0 false disp → effect_of db i m ≡ go m
unfolding transfer_of effect_of
idle_does db Illegal m disp e = refl
idle_does db (Call d) m disp e = refl
idle_does db (Sethi rd imm) m disp e = apart straight (bicc 0 false disp) (λ q. omega arith) e
idle_does db (Bicc cond annul d) m disp e = refl
idle_does db (Arithmetic o cc rd rs1 x) m disp e = apart straight (bicc 0 false disp) (λ q. omega arith) e
idle_does db (Jmpl rd rs1 x) m disp e = refl
idle_does db (Ticc cond rs1 x) m disp e = no_branch (eqb cond 8) 0 false disp e
idle_does db (Load o rd rs1 x) m disp e = apart straight (bicc 0 false disp) (λ q. omega arith) e
idle_does db (Store w rd rs1 x) m disp e = apart straight (bicc 0 false disp) (λ q. omega arith) e
idle_does db (Shift o rd rs1 x) m disp e = apart straight (bicc 0 false disp) (λ q. omega arith) e
idle_does db (Rdy rd) m disp e = apart straight (bicc 0 false disp) (λ q. omega arith) e
idle_does db (Wry s) m disp e = apart straight (bicc 0 false disp) (λ q. omega arith) e
idle_does db (Window o rd rs1 x) m disp e = apart straight (bicc 0 false disp) (λ q. omega arith) e

-- a word's condition has four bits
abbrev small : Instruction → Bool
small Illegal = true
small (Call disp) = true
small (Sethi rd imm) = true
small (Bicc cond annul disp) = leb cond 15
small (Arithmetic o cc rd rs1 x) = true
small (Jmpl rd rs1 x) = true
small (Ticc cond rs1 x) = true
small (Load o rd rs1 x) = true
small (Store w rd rs1 x) = true
small (Shift o rd rs1 x) = true
small (Rdy rd) = true
small (Wry s) = true
small (Window o rd rs1 x) = true

four_bits : (word : ℕ) → leb (bits word 25 4) 15 ≡ true
unfolding bits
four_bits word = le-leb (word / 2 ^ 25 % 2 ^ 4) 15 (omega arith)

small_format : (k word : ℕ) → small (by_format k word) ≡ true
unfolding by_format format0_of format2_of format3_of
small_format zero word = found_passes (λ k i. small i) (rows0 word) Illegal (bits word 22 3) (rw (four_bits word)) refl
small_format (suc zero) word = refl
small_format (suc (suc zero)) word =
    found_passes (λ k f. small (f (bits word 25 4) (bits word 25 5) (bits word 14 5) (operand_of word))) rows2 none2 (bits word 19 6) refl refl
small_format (suc (suc (suc n))) word =
    found_passes (λ k f. small (f (bits word 25 5) (bits word 14 5) (operand_of word))) rows3 none3 (bits word 19 6) refl refl

small_word : (word : ℕ) → small (instruction_of word) ≡ true
unfolding instruction_of
small_word word = left_strictly (λ (i : Instruction). small i ≡ true) word _ refl (small_format (bits word 30 2) word)

small_branch : (i : Instruction) (cond : ℕ) (annul : Bool) (disp : ℕ) → transfer_of i ≡ bicc cond annul disp → small i ≡ true → leb cond 15 ≡ true
unfolding transfer_of
small_branch Illegal cond annul disp e h = apart illegal (bicc cond annul disp) (λ q. omega arith) e
small_branch (Call d) cond annul disp e h = apart (call d) (bicc cond annul disp) (λ q. omega arith) e
small_branch (Sethi rd imm) cond annul disp e h = apart straight (bicc cond annul disp) (λ q. omega arith) e
small_branch (Bicc c a d) cond annul disp e h = let z : cond ≡ c = cc in rw z h
small_branch (Arithmetic o cc rd rs1 x) cond annul disp e h = apart straight (bicc cond annul disp) (λ q. omega arith) e
small_branch (Jmpl rd rs1 x) cond annul disp e h = apart (jmpl rd rs1 x) (bicc cond annul disp) (λ q. omega arith) e
small_branch (Ticc c rs1 x) cond annul disp e h = no_branch (eqb c 8) cond annul disp e
small_branch (Load o rd rs1 x) cond annul disp e h = apart straight (bicc cond annul disp) (λ q. omega arith) e
small_branch (Store w rd rs1 x) cond annul disp e h = apart straight (bicc cond annul disp) (λ q. omega arith) e
small_branch (Shift o rd rs1 x) cond annul disp e h = apart straight (bicc cond annul disp) (λ q. omega arith) e
small_branch (Rdy rd) cond annul disp e h = apart straight (bicc cond annul disp) (λ q. omega arith) e
small_branch (Wry s) cond annul disp e h = apart straight (bicc cond annul disp) (λ q. omega arith) e
small_branch (Window o rd rs1 x) cond annul disp e h = apart straight (bicc cond annul disp) (λ q. omega arith) e

pub small_condition : (word cond : ℕ) (annul : Bool) (disp : ℕ) → transfer_of (instruction_of word) ≡ bicc cond annul disp → leb cond 15 ≡ true
small_condition word cond annul disp e = small_branch (instruction_of word) cond annul disp e (small_word word)

-- an address lies in the image exactly where there is a word at it
abbrev pub present : Option ℕ → Bool
present none = false
present (some word) = true

pub inside_word : (image : List ℕ) (base a : ℕ) → in_image base (length image) a ≡ present (word_in image base a)
unfolding word_in
inside_word image base a = go (in_image base (length image) a)
  where
    go : (b : Bool) → b ≡ present (pick b (some (number_at image (minus a base))) none)
    go true = refl
    go false = refl

-- a branch that annuls is none that may be held
pub annuls : (cond : ℕ) (annul : Bool) → annul ≡ true → idle_bicc (which_of cond) annul ≡ false
unfolding idle_bicc
annuls cond annul h = rw h (each (which_of cond))
  where
    each : (w : Which) → idle_bicc w true ≡ false
    each never = refl
    each always = refl
    each depends = refl
