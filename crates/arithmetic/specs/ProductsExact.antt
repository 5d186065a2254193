-- What a product leaves in Y, rd and the flags, over the integers: the statement that `products_exact` proves.
use Rattle.std.specs.Prelude.{ℕ, ◌+◌, ◌*◌, ◌/◌, ◌%◌, ◌^◌, ◌<◌, ◌≡◌, Bool, true, false, List, eqb, length, get_or, ℤ, pos, ◌+ℤ◌, ◌*ℤ◌}
use Rattle.numbers.specs.Choice.{pick}
use Rattle.words.specs.declared.Operand.{Operand}
use Rattle.words.specs.declared.Operation.TheVariants.{Umul, Smul}
use Rattle.machine.specs.Registers.{file_size, register_of, y_of, value_of}
use Rattle.arithmetic.specs.Arithmetic.{unsigned_of, signed_of, After, arithmetic_of}

-- two words of 32 bits hold an integer modulo 2^64: it and high times 2^32 plus low differ by so many times 2^64
pub record InWords (z : ℤ) (high low : ℕ) : Type 0 where
  pub high_bits : high < 2 ^ 32
  pub low_bits : low < 2 ^ 32
  pub times : ℤ
  pub equal : z ≡ pos (high * 2 ^ 32 + low) +ℤ times *ℤ pos (2 ^ 64)

-- what is left, of flags f and registers rs, by a word whose product is z
pub record Exact (z : ℤ) (f : ℕ) (rs : List ℕ) (cc : Bool) (rd : ℕ) (left : After) : Type 0 where
  -- 02, N4: "the high 32 bits go to Y, the low to rd", to Y where rd is 0 too; register 0 stays 0, and all others as they were
  pub low : ℕ
  pub in_words : InWords z (y_of left.registers) low
  pub to_rd : (rd % 32 ≡ 0 → ⊥) → register_of left.registers rd ≡ low
  pub register_0 : register_of left.registers 0 ≡ 0
  pub others : (i : ℕ) → (i ≡ 0 → ⊥) → (i ≡ rd % 32 → ⊥) → (i ≡ 32 → ⊥) → get_or left.registers i 0 ≡ get_or rs i 0
  -- "the flag forms set N and Z from the low word and clear V and C", 8N + 4Z + 2V + C; the other forms set none
  pub sets : cc ≡ true → left.flags ≡ 8 * (low / 2 ^ 31) + pick (eqb low 0) 4 0
  pub keeps : cc ≡ false → left.flags ≡ f

-- of the factors that the word reads, unsigned or signed
pub record Products (f : ℕ) (rs : List ℕ) (cc : Bool) (rd rs1 : ℕ) (x : Operand) : Type 0 where
  pub umul : Exact (unsigned_of (register_of rs rs1) *ℤ unsigned_of (value_of rs x)) f rs cc rd (arithmetic_of f rs Umul cc rd rs1 x)
  pub smul : Exact (signed_of (register_of rs rs1) *ℤ signed_of (value_of rs x)) f rs cc rd (arithmetic_of f rs Smul cc rd rs1 x)

abbrev pub ProductsExact : Type 0
ProductsExact = (f : ℕ) (rs : List ℕ) (cc : Bool) (rd rs1 : ℕ) (x : Operand) → length rs ≡ file_size → Products f rs cc rd rs1 x
