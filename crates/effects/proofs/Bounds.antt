-- What every machine of a run is: a file of numbers of 32 bits, register 0 being 0, what the current window covers 0, and the nesting at most 6;
-- four flags; n bytes of data. A word leaves it so.
use Prim.Native.Nat.{ℕ, zero, suc, ◌+◌, ◌-◌, ◌*◌, ◌/◌, ◌%◌, ◌^◌, ◌≤◌, ◌<◌}
use native.Mathlib.Omega.{arith}
use native.Mathlib.Nat.{div-le_self}
use mathlib.Core.Path.{◌≡◌, refl, ◌∙◌}
use mathlib.Core.Bool.{Bool, true, false}
use mathlib.Core.List.{List}
use mathlib.Core.Option.{Option, none, some}
use lib.Bits.{and_lt, or_lt, xor_lt}
use lib.Dec.{eqb, leb, ltb}
use lib.ListN.{length, get_or, set, length-set}
use borrow.Author.Tests.{ltb-true, lt-ltb}
use Rattle.words.proofs.Conditions.{bit_lt}
use Rattle.words.specs.Reader.{bits, bit_set, operand_of, rows0, format0_of, rows2, none2, format2_of, rows3, none3, format3_of, by_format, instruction_of}
use Rattle.numbers.specs.Choice.{pick}
use Rattle.numbers.specs.Number.{Below, plus, minus, signed, number_at}
use Rattle.numbers.proofs.Choice.{either, found_passes}
use Rattle.words.proofs.Strict.{left_strictly}
use Rattle.numbers.proofs.Number.{length_put}
use Rattle.numbers.proofs.Bounds.{below_get, below_set, number_lt, put_below, plus_lt, minus_lt, extended_lt}
use Rattle.words.specs.Conditions.{holds_of, nzvc_of}
use Rattle.words.specs.declared.Width.{Width}
use Rattle.words.specs.declared.Width.TheVariants.{Byte, Half, Word}
use Rattle.words.specs.declared.Operand.{Operand}
use Rattle.words.specs.declared.Operand.TheVariants.{Register, Constant}
use Rattle.words.specs.declared.Operation.{Operation}
use Rattle.words.specs.declared.Operation.TheVariants.{Add, And, Or, Xor, Sub, Andn, Orn, Xnor, Addx, Subx, Umul, Smul}
use Rattle.words.specs.declared.ShiftOperation.{ShiftOperation}
use Rattle.words.specs.declared.ShiftOperation.TheVariants.{Sll, Srl, Sra}
use Rattle.words.specs.declared.WindowOperation.{WindowOperation}
use Rattle.words.specs.declared.WindowOperation.TheVariants.{Save, Restore}
use Rattle.words.specs.declared.Instruction.{Instruction}
use Rattle.words.specs.declared.Instruction.TheVariants.{Illegal, Call, Sethi, Bicc, Arithmetic, Jmpl, Ticc, Load, Store, Shift, Rdy, Wry, Window}
use Rattle.machine.specs.Ends.{Ending, ending, Next, go, halt, within}
use Rattle.machine.specs.Registers.{file_size, register_of, put_register, y_of, put_y, value_of, address_of}
use Rattle.arithmetic.specs.Arithmetic.{top, Outcome, outcome, sum_of, difference_of, logic_of, flipped, shifted_left, shifted_right, shifted_signed, exact_product, product_of, shift_of, outcome_of, carry_of, put_high, arithmetic_of}
use Rattle.effects.specs.DataArea.{width_of, sign_of, size_of, value_at, put_value, loaded_at, access, load_of, store_of}
use Rattle.effects.specs.Effect.{Machine, trap_of, with_registers, with_area, effect_of}
use Rattle.windows.specs.Windows.{nesting_of, Clear, Held, turned, window_of}
use Rattle.machine.proofs.Zero.{Zero, y_zero}
use Rattle.windows.proofs.Ring.{put_held, y_nesting, y_clear, turned_below, turned_held}
use Rattle.arithmetic.proofs.Products.{modulo_lt}

pub record Sound (n : ℕ) (m : Machine) : Type 0 where
  pub whole : length m.registers ≡ file_size
  pub registers : Below (2 ^ 32) m.registers
  pub zero : Zero m.registers
  pub clear : Clear m.registers
  pub nesting : nesting_of m.registers ≤ 6
  pub flags : m.flags < 16
  pub area : Below 256 m.area
  pub sized : length m.area ≡ n

pub held : (n : ℕ) (m : Machine) → Sound n m → Held m.registers
held n m s = record { whole = s.whole; zero = s.zero; clear = s.clear; nesting = s.nesting }

-- what a word or a step leaves: a sound state, or an end of 1 to 9 with a number of 32 bits beside it
abbrev pub SoundEnd : Ending → Type 0
SoundEnd (ending k v) = (1 ≤ k) × (k ≤ 9) × (v < 2 ^ 32)

abbrev pub Leaves : {S : Type 0} → (S → Type 0) → Next S → Type 0
Leaves P (go s) = P s
Leaves P (halt e) = SoundEnd e

pub leaves_within : {A B : Type 0} (P : A → Type 0) (Q : B → Type 0) (f : A → B) → ((a : A) → P a → Q (f a)) → (x : Next A) → Leaves P x
    → Leaves Q (within f x)
unfolding within
leaves_within P Q f h (go a) p = h a p
leaves_within P Q f h (halt e) p = p

-- a constant operand has 32 bits: of an operand, and of an instruction's, where it has one
abbrev fits : Operand → Bool
fits (Register i) = true
fits (Constant k) = ltb k (2 ^ 32)

abbrev pub fits_in : Instruction → Bool
fits_in Illegal = true
fits_in (Call disp) = true
fits_in (Sethi rd imm) = true
fits_in (Bicc cond annul disp) = true
fits_in (Arithmetic o cc rd rs1 x) = fits x
fits_in (Jmpl rd rs1 x) = fits x
fits_in (Ticc cond rs1 x) = fits x
fits_in (Load o rd rs1 x) = fits x
fits_in (Store w rd rs1 x) = fits x
fits_in (Shift o rd rs1 x) = fits x
fits_in (Rdy rd) = true
fits_in (Wry s) = fits s.operand
fits_in (Window o rd rs1 x) = fits x

operand_fits : (word : ℕ) → fits (operand_of word) ≡ true
unfolding operand_of bits
operand_fits word =
    either (λ (x : Operand). fits x ≡ true) (bit_set word 13) (Constant (signed 13 (word / 2 ^ 0 % 2 ^ 13))) (Register (word / 2 ^ 0 % 2 ^ 5))
    (lt-ltb (signed 13 (word / 2 ^ 0 % 2 ^ 13)) (2 ^ 32) (extended_lt 13 (word / 2 ^ 0 % 2 ^ 13) (omega arith) (omega arith))) refl

format_fits : (k word : ℕ) → fits_in (by_format k word) ≡ true
unfolding by_format format0_of format2_of format3_of
format_fits zero word = found_passes (λ k i. fits_in i) (rows0 word) Illegal (bits word 22 3) refl refl
format_fits (suc zero) word = refl
format_fits (suc (suc zero)) word =
    found_passes (λ k f. fits_in (f (bits word 25 4) (bits word 25 5) (bits word 14 5) (operand_of word))) rows2 none2 (bits word 19 6)
    (rw (operand_fits word)) refl
format_fits (suc (suc (suc n))) word =
    found_passes (λ k f. fits_in (f (bits word 25 5) (bits word 14 5) (operand_of word))) rows3 none3 (bits word 19 6) (rw (operand_fits word)) refl

pub word_fits : (word : ℕ) → fits_in (instruction_of word) ≡ true
unfolding instruction_of
word_fits word = left_strictly (λ (i : Instruction). fits_in i ≡ true) word _ refl (format_fits (bits word 30 2) word)

-- ---------------------------------------------------------------- registers
pub put_sound : (n : ℕ) (m : Machine) (i v : ℕ) → Sound n m → v < 2 ^ 32 → Sound n (with_registers m (put_register m.registers i v))
unfolding put_register
put_sound n m i v s h =
    let k = put_held m.registers (held n m s) i v in
    record {
      whole = k.whole;
      registers = below_set (2 ^ 32) (set m.registers (i % 32) v) 0 0 (omega arith) (below_set (2 ^ 32) m.registers (i % 32) v h s.registers);
      zero = k.zero;
      clear = k.clear;
      nesting = k.nesting;
      flags = s.flags;
      area = s.area;
      sized = s.sized;
    }

y_sound : (n : ℕ) (m : Machine) (v : ℕ) → Sound n m → v < 2 ^ 32 → Sound n (with_registers m (put_y m.registers v))
unfolding put_y
y_sound n m v s h =
    record {
      whole = length-set m.registers 32 v ∙ s.whole;
      registers = below_set (2 ^ 32) m.registers 32 v h s.registers;
      zero = y_zero m.registers v s.zero;
      clear = y_clear m.registers v s.clear;
      nesting = rw (y_nesting m.registers v) s.nesting;
      flags = s.flags;
      area = s.area;
      sized = s.sized;
    }

turn_sound : (n : ℕ) (m : Machine) (v : ℕ) → Sound n m → v ≤ 6 → Sound n (with_registers m (turned v m.registers))
turn_sound n m v s h =
    let k = turned_held m.registers (held n m s) v h in
    record {
      whole = k.whole;
      registers = turned_below v m.registers (omega arith) s.registers;
      zero = k.zero;
      clear = k.clear;
      nesting = k.nesting;
      flags = s.flags;
      area = s.area;
      sized = s.sized;
    }

-- a window is turned to and rd written, or the run ends with the nesting
turn_leaves : (n : ℕ) (m : Machine) (b : Bool) (k v rd t : ℕ) → Sound n m → 1 ≤ k → k ≤ 9 → (b ≡ true → v ≤ 6) → t < 2 ^ 32
    → Leaves (λ rs. Sound n (with_registers m rs)) (pick b (go (put_register (turned v m.registers) rd t)) (halt (ending k (nesting_of m.registers))))
turn_leaves n m true k v rd t s l h w i = put_sound n (with_registers m (turned v m.registers)) rd t (turn_sound n m v s (w refl)) i
turn_leaves n m false k v rd t s l h w i = (l, h, omega (arith, s.nesting))

window_leaves : (n : ℕ) (m : Machine) (o : WindowOperation) (rd t : ℕ) → Sound n m → t < 2 ^ 32
    → Leaves (λ rs. Sound n (with_registers m rs)) (window_of o rd t m.registers)
unfolding window_of
window_leaves n m Save rd t s h =
    let w = nesting_of m.registers in
    turn_leaves n m (ltb w 6) 8 (w + 1) rd t s (omega arith) (omega arith) (λ e. omega (arith, ltb-true w 6 e)) h
window_leaves n m Restore rd t s h =
    let w = nesting_of m.registers in
    turn_leaves n m (ltb 0 w) 9 (w - 1) rd t s (omega arith) (omega arith) (λ e. omega (arith, s.nesting)) h

y_lt : (n : ℕ) (m : Machine) → Sound n m → y_of m.registers < 2 ^ 32
unfolding y_of
y_lt n m s = below_get (2 ^ 32) m.registers 32 (omega arith) s.registers

abbrev HighLt : Option ℕ → Type 0
HighLt none = Unit {0}
HighLt (some h) = h < 2 ^ 32

high_sound : (n : ℕ) (m : Machine) (h : Option ℕ) → Sound n m → HighLt h → Sound n (with_registers m (put_high h m.registers))
high_sound n m none s l = s
high_sound n m (some h) s l = y_sound n m h s l

pub register_lt : (n : ℕ) (m : Machine) (i : ℕ) → Sound n m → register_of m.registers i < 2 ^ 32
unfolding register_of
register_lt n m i s = below_get (2 ^ 32) m.registers (i % 32) (omega arith) s.registers

value_lt : (n : ℕ) (m : Machine) (x : Operand) → Sound n m → fits x ≡ true → value_of m.registers x < 2 ^ 32
unfolding value_of
value_lt n m (Register i) s f = register_lt n m i s
value_lt n m (Constant k) s f = ltb-true k (2 ^ 32) f

pub address_lt : (rs : List ℕ) (rs1 : ℕ) (x : Operand) → address_of rs rs1 x < 2 ^ 32
unfolding address_of
address_lt rs rs1 x = plus_lt (register_of rs rs1) (value_of rs x)

-- ---------------------------------------------------------------- arithmetic
four_bits : (n z v c : Bool) → nzvc_of n z v c < 16
unfolding nzvc_of
four_bits n z v c = omega (arith, bit_lt n, bit_lt z, bit_lt v, bit_lt c)

flipped_lt : (b : ℕ) → flipped b < 2 ^ 32
flipped_lt b = omega arith

right_lt : (a b : ℕ) → a < 2 ^ 32 → shifted_right a b < 2 ^ 32
unfolding shifted_right
right_lt a b h = omega (arith, div-le_self a (2 ^ (b % 32)))

signed_lt : (a b : ℕ) → a < 2 ^ 32 → shifted_signed a b < 2 ^ 32
unfolding shifted_signed
signed_lt a b h =
    either (λ (v : ℕ). v < 2 ^ 32) (top a) (flipped (shifted_right (flipped a) b)) (shifted_right a b) (flipped_lt (shifted_right (flipped a) b)) (right_lt a b h)

-- a value of 32 bits, four flags, and 32 bits for Y
abbrev Small : Outcome → Type 0
Small k = (k.value < 2 ^ 32) × (k.flags < 16) × HighLt k.high

small : (r : ℕ) (v c : Bool) → r < 2 ^ 32 → Small (outcome r v c)
small r v c h = (h, four_bits (top r) (eqb r 0) v c, tt)

small_logic : (r : ℕ) → r < 2 ^ 32 → Small (logic_of r)
unfolding logic_of
small_logic r h = small r false false h

small_sum : (a b k : ℕ) → Small (sum_of a b k)
unfolding sum_of
small_sum a b k = small (plus (plus a b) k) _ _ (plus_lt (plus a b) k)

small_difference : (a b k : ℕ) → Small (difference_of a b k)
unfolding difference_of
small_difference a b k = small (minus (minus a b) k) _ _ (minus_lt (minus a b) k)

small_product : (sign : Bool) (a b : ℕ) → Small (product_of sign a b)
unfolding product_of
small_product sign a b = let l = modulo_lt (exact_product sign a b) in (omega arith, four_bits _ _ false false, omega arith)

small_outcome : (o : Operation) (carry a b : ℕ) → a < 2 ^ 32 → b < 2 ^ 32 → Small (outcome_of o carry a b)
unfolding outcome_of
small_outcome Add carry a b h i = small_sum a b 0
small_outcome And carry a b h i = small_logic _ (and_lt 32 a b h i)
small_outcome Or carry a b h i = small_logic _ (or_lt 32 a b h i)
small_outcome Xor carry a b h i = small_logic _ (xor_lt 32 a b h i)
small_outcome Sub carry a b h i = small_difference a b 0
small_outcome Andn carry a b h i = small_logic _ (and_lt 32 a (flipped b) h (flipped_lt b))
small_outcome Orn carry a b h i = small_logic _ (or_lt 32 a (flipped b) h (flipped_lt b))
small_outcome Xnor carry a b h i = small_logic _ (xor_lt 32 a (flipped b) h (flipped_lt b))
small_outcome Addx carry a b h i = small_sum a b carry
small_outcome Subx carry a b h i = small_difference a b carry
small_outcome Umul carry a b h i = small_product false a b
small_outcome Smul carry a b h i = small_product true a b

shift_lt : (o : ShiftOperation) (a b : ℕ) → a < 2 ^ 32 → shift_of o a b < 2 ^ 32
unfolding shift_of shifted_left
shift_lt Sll a b h = omega arith
shift_lt Srl a b h = right_lt a b h
shift_lt Sra a b h = signed_lt a b h

-- ---------------------------------------------------------------- loads and stores
loaded_lt : (w : Width) (sign : Bool) (area : List ℕ) (at : ℕ) → Below 256 area → loaded_at w sign area at < 2 ^ 32
unfolding loaded_at value_at size_of
loaded_lt w sign area at b =
    either (λ (v : ℕ). v < 2 ^ 32) sign (signed (8 * size_of w) (value_at w area at)) (value_at w area at) (extended w) (plain w)
  where
    plain : (w : Width) → value_at w area at < 2 ^ 32
    plain Byte = omega (arith, below_get 256 area at (omega arith) b)
    plain Half = omega (arith, below_get 256 area at (omega arith) b, below_get 256 area (at + 1) (omega arith) b)
    plain Word = number_lt area at b

    extended : (w : Width) → signed (8 * size_of w) (value_at w area at) < 2 ^ 32
    extended Byte = extended_lt 8 (get_or area at 0) (omega (arith, below_get 256 area at (omega arith) b)) (omega arith)
    extended Half =
        extended_lt 16 (get_or area at 0 * 256 + get_or area (at + 1) 0)
        (omega (arith, below_get 256 area at (omega arith) b, below_get 256 area (at + 1) (omega arith) b)) (omega arith)
    extended Word = extended_lt 32 (number_at area at) (number_lt area at b) (omega arith)

stored_below : (w : Width) (area : List ℕ) (at v : ℕ) → Below 256 area → Below 256 (put_value w area at v)
unfolding put_value
stored_below Byte area at v b = below_set 256 area at (v % 256) (omega arith) b
stored_below Half area at v b =
    below_set 256 (set area at (v / 256 % 256)) (at + 1) (v % 256) (omega arith) (below_set 256 area at (v / 256 % 256) (omega arith) b)
stored_below Word area at v b = put_below area at v b

stored_length : (w : Width) (area : List ℕ) (at v : ℕ) → length (put_value w area at v) ≡ length area
unfolding put_value
stored_length Byte area at v = length-set area at (v % 256)
stored_length Half area at v = length-set (set area at (v / 256 % 256)) (at + 1) (v % 256) ∙ length-set area at (v / 256 % 256)
stored_length Word area at v = length_put area at v

-- an access goes on with what it made, or ends the run
access_leaves : (P : List ℕ → Type 0) (w : Width) (db t : ℕ) (area made : List ℕ) → t < 2 ^ 32 → P made → Leaves P (access w db t area made)
access_leaves P w db t area made l p =
    either (Leaves P) (eqb (t % size_of w) 0) (pick (leb (minus t db + size_of w) (length area)) (go made) (halt (ending 5 t))) (halt (ending 4 t))
    (either (Leaves P) (leb (minus t db + size_of w) (length area)) (go made) (halt (ending 5 t)) p (omega arith)) (omega arith)

-- ---------------------------------------------------------------- the effect of a word
trap_leaves : (P : Type 0) (f : ℕ) (rs : List ℕ) (cond rs1 : ℕ) (x : Operand) → P → Leaves (λ u. P) (trap_of f rs cond rs1 x)
unfolding trap_of
trap_leaves P f rs cond rs1 x p = either (Leaves (λ u. P)) (holds_of cond f) (halt (ending 1 (address_of rs rs1 x % 128))) (go tt) (omega arith) p

pub effects_sound : (n db : ℕ) (i : Instruction) (m : Machine) → fits_in i ≡ true → Sound n m → Leaves (Sound n) (effect_of db i m)
unfolding effect_of arithmetic_of load_of store_of
effects_sound n db Illegal m f s = s
effects_sound n db (Call disp) m f s = s
effects_sound n db (Sethi rd imm) m f s = put_sound n m rd (imm * 2 ^ 10 % 2 ^ 32) s (omega arith)
effects_sound n db (Bicc cond annul disp) m f s = s
effects_sound n db (Arithmetic o cc rd rs1 x) m f s =
    let k = outcome_of o (carry_of m.flags) (register_of m.registers rs1) (value_of m.registers x) in
    let b = small_outcome o (carry_of m.flags) (register_of m.registers rs1) (value_of m.registers x) (register_lt n m rs1 s) (value_lt n m x s f) in
    let p = put_sound n (with_registers m (put_high k.high m.registers)) rd k.value (high_sound n m k.high s b.2) b.0 in
    record {
      whole = p.whole;
      registers = p.registers;
      zero = p.zero;
      clear = p.clear;
      nesting = p.nesting;
      flags = either (λ (f : ℕ). f < 16) cc k.flags m.flags b.1 s.flags;
      area = s.area;
      sized = s.sized;
    }
effects_sound n db (Jmpl rd rs1 x) m f s = s
effects_sound n db (Rdy rd) m f s = put_sound n m rd (y_of m.registers) s (y_lt n m s)
effects_sound n db (Wry t) m f s = y_sound n m _ s (xor_lt 32 _ _ (register_lt n m t.rs1 s) (value_lt n m t.operand s f))
effects_sound n db (Window o rd rs1 x) m f s =
    leaves_within (λ rs. Sound n (with_registers m rs)) (Sound n) (with_registers m) (λ rs p. p) _
    (window_leaves n m o rd (address_of m.registers rs1 x) s (address_lt m.registers rs1 x))
effects_sound n db (Ticc cond rs1 x) m f s = leaves_within (λ u. Sound n m) (Sound n) (λ u. m) (λ u p. p) _ (trap_leaves (Sound n m) m.flags m.registers cond rs1 x s)
effects_sound n db (Load o rd rs1 x) m f s =
    let w = width_of o in
    let sign = sign_of o in
    let t = address_of m.registers rs1 x in
    leaves_within (λ rs. Sound n (with_registers m rs)) (Sound n) (with_registers m) (λ rs p. p) _
    (access_leaves (λ rs. Sound n (with_registers m rs)) w db t m.area (put_register m.registers rd (loaded_at w sign m.area (minus t db)))
    (address_lt m.registers rs1 x)
    (put_sound n m rd (loaded_at w sign m.area (minus t db)) s (loaded_lt w sign m.area (minus t db) s.area)))
effects_sound n db (Store w rd rs1 x) m f s =
    let t = address_of m.registers rs1 x in
    leaves_within (λ a. Sound n (with_area m a)) (Sound n) (with_area m) (λ a p. p) _
    (access_leaves (λ a. Sound n (with_area m a)) w db t m.area (put_value w m.area (minus t db) (register_of m.registers rd))
    (address_lt m.registers rs1 x)
    (record {
      whole = s.whole;
      registers = s.registers;
      zero = s.zero;
      clear = s.clear;
      nesting = s.nesting;
      flags = s.flags;
      area = stored_below w m.area (minus t db) (register_of m.registers rd) s.area;
      sized = stored_length w m.area (minus t db) (register_of m.registers rd) ∙ s.sized;
    }))
effects_sound n db (Shift o rd rs1 x) m f s =
    put_sound n m rd (shift_of o (register_of m.registers rs1) (value_of m.registers x)) s
    (shift_lt o (register_of m.registers rs1) (value_of m.registers x) (register_lt n m rs1 s))
