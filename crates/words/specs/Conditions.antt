-- 01: "Conditions 0 to 15, one bit for each flag value 8N + 4Z + 2V + C, lowest first", and V8's formulas for them.
use Rattle.std.specs.Prelude.{ℕ, ◌+◌, ◌*◌, ◌/◌, ◌%◌, ◌^◌, Bool, true, false, not, List, [], ◌∷◌, eqb, get_or}

unfoldable pub rows : List ℕ
rows =
    0x0000 ∷ 0xF0F0 ∷ 0xF3FC ∷ 0x33CC ∷ 0xFAFA ∷ 0xAAAA ∷ 0xFF00 ∷ 0xCCCC ∷ 0xFFFF ∷ 0x0F0F ∷ 0x0C03 ∷ 0xCC33 ∷ 0x0505 ∷ 0x5555
    ∷ 0x00FF
    ∷ 0x3333
    ∷ []

-- bit n of a row
unfoldable pub bit_at : ℕ → ℕ → Bool
bit_at row n = eqb (row / 2 ^ n % 2) 1

-- whether a condition holds of the flags 8N + 4Z + 2V + C
unfoldable pub holds_of : ℕ → ℕ → Bool
holds_of cond nzvc = bit_at (get_or rows cond 0) (nzvc % 16)

-- a flag as a number, and the four of them as one
unfoldable pub bit_of : Bool → ℕ
bit_of true = 1
bit_of false = 0

unfoldable pub nzvc_of : Bool → Bool → Bool → Bool → ℕ
nzvc_of n z v c = bit_of n * 8 + bit_of z * 4 + bit_of v * 2 + bit_of c

abbrev pub or : Bool → Bool → Bool
or true b = true
or false b = b

abbrev pub xor : Bool → Bool → Bool
xor true b = not b
xor false b = b

-- V8's formulas over N, Z, V and C, in the order of the conditions
abbrev pub Formula : Type 0
Formula = Bool → Bool → Bool → Bool → Bool

abbrev pub never : Formula
never n z v c = false

abbrev pub formulas : List Formula
formulas =
    never
    ∷ (λ n z v c. z)
    ∷ (λ n z v c. or z (xor n v))
    ∷ (λ n z v c. xor n v)
    ∷ (λ n z v c. or c z)
    ∷ (λ n z v c. c)
    ∷ (λ n z v c. n)
    ∷ (λ n z v c. v)
    ∷ (λ n z v c. true)
    ∷ (λ n z v c. not z)
    ∷ (λ n z v c. not (or z (xor n v)))
    ∷ (λ n z v c. not (xor n v))
    ∷ (λ n z v c. not (or c z))
    ∷ (λ n z v c. not c)
    ∷ (λ n z v c. not n)
    ∷ (λ n z v c. not v)
    ∷ []
