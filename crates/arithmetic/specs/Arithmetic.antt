-- 01, Words known: "add, addx, sub, subx, and, andn, or, orn, xor, xnor, each plain and setting flags; sll, srl, sra", as V8 has them.
-- 02, N4: "Add umul, smul, umulcc, smulcc".
use Rattle.std.specs.Prelude.{ℕ, ◌-◌, ◌*◌, ◌/◌, ◌%◌, ◌^◌, Bool, true, false, not, ◌&&◌, ◌||◌, List, leb, eqb, ℤ, pos, negsuc, ◌-ℤ◌, ◌*ℤ◌}
use Rattle.std.proofs.Math.Option.{Option, none, some}
use Rattle.std.specs.Int.Bits.{bit_and, bit_or, bit_xor}
use Rattle.numbers.specs.Choice.{pick}
use Rattle.numbers.specs.Number.{plus, minus}
use Rattle.words.specs.Conditions.{nzvc_of}
use Rattle.words.specs.declared.Operand.{Operand}
use Rattle.words.specs.declared.Operation.{Operation}
use Rattle.words.specs.declared.Operation.TheVariants.{Add, And, Or, Xor, Sub, Andn, Orn, Xnor, Addx, Subx, Umul, Smul}
use Rattle.words.specs.declared.ShiftOperation.{ShiftOperation}
use Rattle.words.specs.declared.ShiftOperation.TheVariants.{Sll, Srl, Sra}
use Rattle.machine.specs.Registers.{register_of, put_register, put_y, value_of}

-- bit 31
unfoldable pub top : ℕ → Bool
top x = leb (2 ^ 31) x

-- 02, N3: "Overflow and carry of the flag forms of add, addx, sub and subx are to be worked out, .. from the three top bits, in the steps and order
-- of V8's own text": V and C of a sum, then of a difference, over r[rs1]<31>, operand2<31> and result<31>. `FlagsExact` states what they say.
abbrev pub sum_overflow : Bool → Bool → Bool → Bool
sum_overflow rs1 operand2 result = (rs1 && operand2 && not result) || (not rs1 && not operand2 && result)

abbrev pub sum_carry : Bool → Bool → Bool → Bool
sum_carry rs1 operand2 result = (rs1 && operand2) || (not result && (rs1 || operand2))

abbrev pub difference_overflow : Bool → Bool → Bool → Bool
difference_overflow rs1 operand2 result = (rs1 && not operand2 && not result) || (not rs1 && operand2 && result)

abbrev pub difference_carry : Bool → Bool → Bool → Bool
difference_carry rs1 operand2 result = (not rs1 && operand2) || (result && (not rs1 || operand2))

-- what an operation gives, the flags 8N + 4Z + 2V + C that its flag form sets, and what goes to Y, if anything does
pub record Outcome : Type 0 where
  pub value : ℕ
  pub flags : ℕ
  pub high : Option ℕ

abbrev pub outcome : ℕ → Bool → Bool → Outcome
outcome r v c = record { value = r; flags = nzvc_of (top r) (eqb r 0) v c; high = none }

-- k comes in from C, 0 for add and sub; V and C see it in the result alone
unfoldable pub sum_of : ℕ → ℕ → ℕ → Outcome
sum_of a b k =
    let r = plus (plus a b) k in
    outcome r (sum_overflow (top a) (top b) (top r)) (sum_carry (top a) (top b) (top r))

unfoldable pub difference_of : ℕ → ℕ → ℕ → Outcome
difference_of a b k =
    let r = minus (minus a b) k in
    outcome r (difference_overflow (top a) (top b) (top r)) (difference_carry (top a) (top b) (top r))

unfoldable pub logic_of : ℕ → Outcome
logic_of r = outcome r false false

-- all 32 bits turned over
abbrev pub flipped : ℕ → ℕ
flipped b = 2 ^ 32 - 1 - b

-- shifts, by the low five bits of b
unfoldable pub shifted_left : ℕ → ℕ → ℕ
shifted_left a b = a * 2 ^ (b % 32) % 2 ^ 32

unfoldable pub shifted_right : ℕ → ℕ → ℕ
shifted_right a b = a / 2 ^ (b % 32)

-- of a number with bit 31 set, the flipped bits are shifted
unfoldable pub shifted_signed : ℕ → ℕ → ℕ
shifted_signed a b = pick (top a) (flipped (shifted_right (flipped a) b)) (shifted_right a b)

-- 32 bits as an integer: unsigned, the number itself; signed, 2^32 less where bit 31 is set
abbrev pub unsigned_of : ℕ → ℤ
unsigned_of x = pos x

abbrev pub signed_of : ℕ → ℤ
signed_of x = pick (top x) (pos x -ℤ pos (2 ^ 32)) (pos x)

-- umul takes both factors as unsigned, smul both as signed
abbrev pub exact_product : Bool → ℕ → ℕ → ℤ
exact_product sign a b = pick sign (signed_of a *ℤ signed_of b) (unsigned_of a *ℤ unsigned_of b)

-- an integer modulo 2^64; negsuc n is -(n + 1)
unfoldable pub modulo64 : ℤ → ℕ
modulo64 (pos n) = n % 2 ^ 64
modulo64 (negsuc n) = 2 ^ 64 - 1 - n % 2 ^ 64

-- 02, N4: "the high 32 bits go to Y, the low to rd; the flag forms set N and Z from the low word and clear V and C". `ProductsExact` states
-- what that makes of registers.
unfoldable pub product_of : Bool → ℕ → ℕ → Outcome
product_of sign a b =
    let p = modulo64 (exact_product sign a b) in
    let low = p % 2 ^ 32 in
    record { value = low; flags = nzvc_of (top low) (eqb low 0) false false; high = some (p / 2 ^ 32) }

unfoldable pub outcome_of : Operation → ℕ → ℕ → ℕ → Outcome
outcome_of Add carry a b = sum_of a b 0
outcome_of And carry a b = logic_of (bit_and a b)
outcome_of Or carry a b = logic_of (bit_or a b)
outcome_of Xor carry a b = logic_of (bit_xor a b)
outcome_of Sub carry a b = difference_of a b 0
outcome_of Andn carry a b = logic_of (bit_and a (flipped b))
outcome_of Orn carry a b = logic_of (bit_or a (flipped b))
outcome_of Xnor carry a b = logic_of (bit_xor a (flipped b))
outcome_of Addx carry a b = sum_of a b carry
outcome_of Subx carry a b = difference_of a b carry
outcome_of Umul carry a b = product_of false a b
outcome_of Smul carry a b = product_of true a b

unfoldable pub shift_of : ShiftOperation → ℕ → ℕ → ℕ
shift_of Sll a b = shifted_left a b
shift_of Srl a b = shifted_right a b
shift_of Sra a b = shifted_signed a b

-- C, as a number
unfoldable pub carry_of : ℕ → ℕ
carry_of nzvc = nzvc % 2

-- flags, and registers with Y
pub record After : Type 0 where
  pub flags : ℕ
  pub registers : List ℕ

abbrev pub after : ℕ → List ℕ → After
after f rs = record { flags = f; registers = rs }

-- a high word to Y, where there is one
abbrev pub put_high : Option ℕ → List ℕ → List ℕ
put_high none rs = rs
put_high (some h) rs = put_y rs h

-- the high word to Y where there is one, the result to rd, and the flags if the word sets them
abbrev pub written : ℕ → List ℕ → Bool → ℕ → Outcome → After
written f rs cc rd k = after (pick cc k.flags f) (put_register (put_high k.high rs) rd k.value)

unfoldable pub arithmetic_of : ℕ → List ℕ → Operation → Bool → ℕ → ℕ → Operand → After
arithmetic_of f rs o cc rd rs1 x = written f rs cc rd (outcome_of o (carry_of f) (register_of rs rs1) (value_of rs x))
