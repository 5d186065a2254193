-- Laws of effects: the words that are not done here.
use Rattle.machine.specs.declared.End.{End}
use Rattle.numbers.proofs.Choice.{either}
use Rattle.std.specs.Prelude.{nat_lt}
use Rattle.numbers.specs.Number.{minus, signed}
use Rattle.numbers.specs.Choice.{pick}
use Rattle.words.specs.declared.Width.{Width}
use Rattle.words.specs.declared.Operand.{Operand}
use Rattle.words.specs.Conditions.{holds_of}
use Rattle.std.specs.Prelude.{Result, Ok, Err}
use Rattle.machine.specs.declared.Flags.{Flags}
use Rattle.machine.proofs.Ends.{EndsWell, within_ends, not_going}
use Rattle.machine.specs.Registers.{register_of, put_register, address_of}
use Rattle.effects.specs.DataArea.{width_of, sign_of, size_of, put_value, loaded_at, access, load_of, store_of}
use Rattle.windows.specs.Windows.{nesting_of, turned, window_of}
use Rattle.words.specs.declared.WindowOperation.{WindowOperation}
use Rattle.words.specs.declared.WindowOperation.TheVariants.{Save, Restore}
use lib.ListN.{length}
use lib.Dec.{eqb, leb, ltb}
use native.Mathlib.Omega.{arith}
use mathlib.Core.Bool.{Bool, false}
use Rattle.words.specs.declared.Instruction.TheVariants.{Illegal, Call, Sethi, Bicc, Arithmetic, Jmpl, Ticc, Load, Store, Shift, Rdy, Wry, Window}
use Rattle.words.specs.declared.Instruction.{Instruction}
use Rattle.machine.specs.Ends.{live, settle, ending, go, halt, answered, within, Ending, Next, state}
use Rattle.effects.specs.Effect.{effect_of, Machine, trap_of, with_registers, with_area, machine}
use denote.Enum.Declared.{tag_of}
use Rattle.words.specs.contracts.Instruction.{the_type as instruction}
use types.Run.{OneOf, miss}
use mathlib.Core.List.{List, [], ◌∷◌}
use mathlib.Core.Path.{◌≡◌, refl}
use Prim.Native.Nat.{ℕ, ◌+◌, ◌-◌, ◌%◌, ◌^◌}

-- the numbers are those of the variants, in the order of the enum
abbrev transfers : List ℕ
transfers = 0 ∷ 1 ∷ 3 ∷ 5 ∷ []

pub idle : (db : ℕ) (i : Instruction) (m : Machine) → OneOf transfers (tag_of instruction i) → live m ≡ settle m (effect_of db i m)
unfolding effect_of settle
idle db Illegal m k = refl
idle db (Call disp) m k = refl
idle db (Bicc cond annul disp) m k = refl
idle db (Jmpl rd rs1 x) m k = refl
idle db (Sethi rd imm) m k = absurd (miss transfers 2 tt k)
idle db (Arithmetic o cc rd rs1 x) m k = absurd (miss transfers 4 tt k)
idle db (Ticc cond rs1 x) m k = absurd (miss transfers 6 tt k)
idle db (Load o rd rs1 x) m k = absurd (miss transfers 7 tt k)
idle db (Store w rd rs1 x) m k = absurd (miss transfers 8 tt k)
idle db (Shift o rd rs1 x) m k = absurd (miss transfers 9 tt k)
idle db (Rdy rd) m k = absurd (miss transfers 10 tt k)
idle db (Wry s) m k = absurd (miss transfers 11 tt k)
idle db (Window o rd rs1 x) m k = absurd (miss transfers 12 tt k)

-- 01: "Alignment is tested before fit": a misaligned address ends the run with 4, whether the access fits or not
pub misaligned_first : (w : Width) (db t : ℕ) (area made : List ℕ) → eqb (t % size_of w) 0 ≡ false → access w db t area made ≡ halt (ending 4 t)
misaligned_first w db t area made h = rw h

-- a word ends a run with 1, 4, 5, 8 or 9 alone
access_ends : (w : Width) (db t : ℕ) (area made : List ℕ) → EndsWell (access w db t area made)
access_ends w db t area made =
    either (EndsWell {S = List ℕ}) (eqb (t % size_of w) 0) (pick (leb (minus t db + size_of w) (length area)) (go made) (halt (ending 5 t)))
    (halt (ending 4 t))
    (either (EndsWell {S = List ℕ}) (leb (minus t db + size_of w) (length area)) (go made) (halt (ending 5 t)) tt (omega arith))
    (omega arith)

trap_ends : (f : ℕ) (rs : List ℕ) (cond rs1 : ℕ) (x : Operand) → EndsWell (trap_of f rs cond rs1 x)
unfolding trap_of
trap_ends f rs cond rs1 x =
    either (EndsWell {S = Unit {0}}) (holds_of cond f) (halt (ending 1 (address_of rs rs1 x % 128))) (go tt) (omega arith) tt

load_ends : (w : Width) (sign : Bool) (db : ℕ) (area : List ℕ) (rd t : ℕ) (rs : List ℕ) → EndsWell (load_of w sign db area rd t rs)
unfolding load_of
load_ends w sign db area rd t rs = access_ends w db t area (put_register rs rd (loaded_at w sign area (minus t db)))

store_ends : (w : Width) (db v t : ℕ) (area : List ℕ) → EndsWell (store_of w db v t area)
unfolding store_of
store_ends w db v t area = access_ends w db t area (put_value w area (minus t db) v)

window_ends : (o : WindowOperation) (rd t : ℕ) (rs : List ℕ) → EndsWell (window_of o rd t rs)
unfolding window_of
window_ends Save rd t rs =
    either (EndsWell {S = List ℕ}) (ltb (nesting_of rs) 6) (go (put_register (turned (nesting_of rs + 1) rs) rd t)) (halt (ending 8 (nesting_of rs))) tt (omega arith)
window_ends Restore rd t rs =
    either (EndsWell {S = List ℕ}) (ltb 0 (nesting_of rs)) (go (put_register (turned (nesting_of rs - 1) rs) rd t)) (halt (ending 9 (nesting_of rs))) tt (omega arith)

pub effects_end : (db : ℕ) (i : Instruction) (m : Machine) → EndsWell (effect_of db i m)
unfolding effect_of
effects_end db Illegal m = tt
effects_end db (Call disp) m = tt
effects_end db (Bicc cond annul disp) m = tt
effects_end db (Jmpl rd rs1 x) m = tt
effects_end db (Sethi rd imm) m = tt
effects_end db (Arithmetic o cc rd rs1 x) m = tt
effects_end db (Ticc cond rs1 x) m = within_ends (λ u. m) _ (trap_ends m.flags m.registers cond rs1 x)
effects_end db (Load o rd rs1 x) m =
    within_ends (with_registers m) _ (load_ends (width_of o) (sign_of o) db m.area rd (address_of m.registers rs1 x) m.registers)
effects_end db (Store w rd rs1 x) m =
    within_ends (with_area m) _ (store_ends w db (register_of m.registers rd) (address_of m.registers rs1 x) m.area)
effects_end db (Shift o rd rs1 x) m = tt
effects_end db (Rdy rd) m = tt
effects_end db (Wry s) m = tt
effects_end db (Window o rd rs1 x) m = within_ends (with_registers m) _ (window_ends o rd (address_of m.registers rs1 x) m.registers)

-- a word has no sign to extend
pub whole_word : (v : ℕ) → signed 32 v ≡ v
unfolding signed
whole_word v = either (λ x. x ≡ v) (nat_lt v (2 ^ 31)) v (v + 0) refl (omega arith)

-- the parts of equal states
same_ending : {S : Type 0} {x y : S} {d e : Ending} → state x d ≡ state y e → d ≡ e
same_ending p = cc

same_state : {S : Type 0} {x y : S} {d e : Ending} → state x d ≡ state y e → x ≡ y
same_state p = cc

-- a core that does a word by `perform`: it goes on as `on` says, or ends and stays as it was. `stay` is the core's state around the machine.
pub after_effect : {S : Type 0} (stay on : Machine → S) (rs rs' a a' : List ℕ) (f : ℕ) (n : Next Machine) (r : Result Flags End) → EndsWell n
    → answered (λ g. machine rs' g.nzvc a') (machine rs' f a') r ≡ settle (machine rs f a) n
    → answered (λ g. on (machine rs' g.nzvc a')) (stay (machine rs' f a')) r ≡ settle (stay (machine rs f a)) (within on n)
unfolding settle within answered
after_effect stay on rs rs' a a' f (go m) (Ok g) w h = rw (same_state h)
after_effect stay on rs rs' a a' f (go m) (Err e) w h = absurd (not_going e (same_ending h))
after_effect stay on rs rs' a a' f (halt (ending k v)) (Ok g) w h =
    let z : ending 0 0 ≡ ending k v = same_ending h in
    let y : 0 ≡ k = cc in
    absurd (omega (arith, w.0))
after_effect stay on rs rs' a a' f (halt e) (Err d) w h = rw (same_state h, same_ending h)
