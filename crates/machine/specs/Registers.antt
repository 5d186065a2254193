-- 01, The old core: "32 registers of 32 bits". 02, N4: "The state and each trail entry gain Y"; N11: "Trail entries show the nesting and every
-- window". They stand in one file.
use Rattle.std.specs.Prelude.{ℕ, ◌%◌, List, get_or, set}
use Rattle.numbers.specs.Number.{plus}
use Rattle.words.specs.declared.Operand.{Operand}
use Rattle.words.specs.declared.Operand.TheVariants.{Register, Constant}

-- how many numbers the file has: registers 0 to 31, Y, the nesting, and eight times sixteen of windows
abbrev pub file_size : ℕ
file_size = 162

-- "Register 0 reads and shows as 0": it is 0 in every state that a run starts from, and every write leaves it so (`register_zero` of model)
unfoldable pub register_of : List ℕ → ℕ → ℕ
register_of rs i = get_or rs (i % 32) 0

unfoldable pub put_register : List ℕ → ℕ → ℕ → List ℕ
put_register rs i v = set (set rs (i % 32) v) 0 0

unfoldable pub y_of : List ℕ → ℕ
y_of rs = get_or rs 32 0

unfoldable pub put_y : List ℕ → ℕ → List ℕ
put_y rs v = set rs 32 v

-- the second operand's value
unfoldable pub value_of : List ℕ → Operand → ℕ
value_of rs (Register i) = register_of rs i
value_of rs (Constant k) = k

-- rs1 plus the second operand
unfoldable pub address_of : List ℕ → ℕ → Operand → ℕ
address_of rs rs1 x = plus (register_of rs rs1) (value_of rs x)
