-- Numbers of 32 bits, and numbers of four bytes, big-endian, in lists of bytes.
use Rattle.std.specs.Prelude.{ℕ, zero, suc, ◌+◌, ◌-◌, ◌*◌, ◌/◌, ◌%◌, ◌^◌, ◌<◌, List, [], ◌∷◌, ◌++◌, length, take, replicate, nat_lt, slice_index, slice_set}
use Rattle.numbers.specs.Choice.{pick}

-- 01: "Address sums are taken modulo 2^32."
unfoldable pub plus : ℕ → ℕ → ℕ
plus a b = (a + b) % 2 ^ 32

-- a difference modulo 2^32, as the distance of an address from a base
unfoldable pub minus : ℕ → ℕ → ℕ
minus a b = (a + 2 ^ 32 - b) % 2 ^ 32

-- a number of so many bits, at least one, read as signed and taken modulo 2^32
unfoldable pub signed : ℕ → ℕ → ℕ
signed bits v = pick (nat_lt v (2 ^ (bits - 1))) v (v + (2 ^ 32 - 2 ^ bits))

-- 01: "four bytes a number, big-endian": the number whose bytes start at a position
unfoldable pub number_at : List ℕ → ℕ → ℕ
number_at bytes at = slice_index bytes at * 2 ^ 24 + slice_index bytes (at + 1) * 2 ^ 16 + slice_index bytes (at + 2) * 2 ^ 8 + slice_index bytes (at + 3)

-- the list with a number's four bytes put at a position
unfoldable pub put_number : List ℕ → ℕ → ℕ → List ℕ
put_number bytes at v =
    slice_set (slice_set (slice_set (slice_set bytes at (v / 2 ^ 24 % 256)) (at + 1) (v / 2 ^ 16 % 256)) (at + 2) (v / 2 ^ 8 % 256)) (at + 3) (v % 256)

-- f 0, f 1, .. up to and without f n
unfoldable pub up_to : {A : Type 0} → (ℕ → A) → ℕ → List A
up_to f zero = []
up_to f (suc n) = up_to f n ++ (f n ∷ [])

-- the first n numbers of an area
unfoldable pub numbers_of : List ℕ → ℕ → List ℕ
numbers_of bytes n = up_to (λ i. number_at bytes (4 * i)) n

-- the bytes of a list of numbers
unfoldable pub bytes_of : List ℕ → List ℕ
bytes_of [] = []
bytes_of (v ∷ vs) = v / 2 ^ 24 % 256 ∷ v / 2 ^ 16 % 256 ∷ v / 2 ^ 8 % 256 ∷ v % 256 ∷ bytes_of vs

-- the first n bytes as they are, and 0 for each byte after them
unfoldable pub zero_from : ℕ → List ℕ → List ℕ
zero_from n bytes = take n bytes ++ replicate (length bytes - n) 0

-- each number of a list is below a bound: bytes below 256, numbers of 32 bits below 2^32
abbrev pub Below : ℕ → List ℕ → Type 0
Below n [] = Unit {0}
Below n (v ∷ vs) = (v < n) × Below n vs
