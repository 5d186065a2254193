-- 01, The old core: "Data is one lent area .. at a data base, big-endian".
use Rattle.std.specs.Prelude.{ℕ, ◌+◌, ◌*◌, ◌/◌, ◌%◌, Bool, true, false, List, leb, eqb, length, get_or, set}
use Rattle.numbers.specs.Choice.{pick}
use Rattle.numbers.specs.Number.{minus, signed, number_at, put_number}
use Rattle.words.specs.declared.LoadOperation.{LoadOperation}
use Rattle.words.specs.declared.LoadOperation.TheVariants.{Ld, Ldub, Lduh, Ldsb, Ldsh}
use Rattle.words.specs.declared.Width.{Width}
use Rattle.words.specs.declared.Width.TheVariants.{Byte, Half, Word}
use Rattle.machine.specs.Ends.{ending, Next, go, halt}
use Rattle.machine.specs.Registers.{put_register}

-- bytes that a load or a store moves
unfoldable pub size_of : Width → ℕ
size_of Byte = 1
size_of Half = 2
size_of Word = 4

-- the number in that many bytes
unfoldable pub value_at : Width → List ℕ → ℕ → ℕ
value_at Byte area at = get_or area at 0
value_at Half area at = get_or area at 0 * 256 + get_or area (at + 1) 0
value_at Word area at = number_at area at

-- the area with a number's low bytes at a position
unfoldable pub put_value : Width → List ℕ → ℕ → ℕ → List ℕ
put_value Byte area at v = set area at (v % 256)
put_value Half area at v = set (set area at (v / 256 % 256)) (at + 1) (v % 256)
put_value Word area at v = put_number area at v

-- what each load moves, and whether it extends the sign
unfoldable pub width_of : LoadOperation → Width
width_of Ld = Word
width_of Ldub = Byte
width_of Lduh = Half
width_of Ldsb = Byte
width_of Ldsh = Half

unfoldable pub sign_of : LoadOperation → Bool
sign_of Ld = false
sign_of Ldub = false
sign_of Lduh = false
sign_of Ldsb = true
sign_of Ldsh = true

-- what a load gives
unfoldable pub loaded_at : Width → Bool → List ℕ → ℕ → ℕ
loaded_at w sign area at = pick sign (signed (8 * size_of w) (value_at w area at)) (value_at w area at)

-- "A data access of w bytes fits if (address − data base) modulo 2^32, plus w, is at most the area's length.
-- Alignment is tested before fit."
abbrev pub access : Width → ℕ → ℕ → List ℕ → List ℕ → Next (List ℕ)
access w db t area made =
    pick (eqb (t % size_of w) 0) (pick (leb (minus t db + size_of w) (length area)) (go made) (halt (ending 5 t))) (halt (ending 4 t))

-- from an address to a register: the registers
unfoldable pub load_of : Width → Bool → ℕ → List ℕ → ℕ → ℕ → List ℕ → Next (List ℕ)
load_of w sign db area rd t rs = access w db t area (put_register rs rd (loaded_at w sign area (minus t db)))

-- a number to an address: the area
unfoldable pub store_of : Width → ℕ → ℕ → ℕ → List ℕ → Next (List ℕ)
store_of w db v t area = access w db t area (put_value w area (minus t db) v)
