-- What V and C of sums and differences say, over the integers: the statement that `flags_exact` proves.
use Rattle.std.specs.Prelude.{ℕ, ◌^◌, ◌<◌, Bool, not, ◌&&◌, ◌≡◌, ℤ, pos, neg_ℤ, ◌+ℤ◌, ◌-ℤ◌}
use Rattle.std.specs.Int.Signed.{lt_z, le_z}
use Rattle.words.specs.Conditions.{bit_at}
use Rattle.words.specs.declared.Operation.TheVariants.{Add, Sub, Addx, Subx}
use Rattle.arithmetic.specs.Arithmetic.{unsigned_of, signed_of, Outcome, outcome_of}

-- from low, up to and without high
abbrev pub between : ℤ → ℤ → ℤ → Bool
between low high z = le_z low z && lt_z z high

-- 32 bits hold -2^31 to 2^31 - 1 signed, 0 to 2^32 - 1 unsigned
abbrev pub fits_signed : ℤ → Bool
fits_signed z = between (neg_ℤ (pos (2 ^ 31))) (pos (2 ^ 31)) z

abbrev pub fits_unsigned : ℤ → Bool
fits_unsigned z = between (pos 0) (pos (2 ^ 32)) z

abbrev pub below_zero : ℤ → Bool
below_zero z = lt_z z (pos 0)

-- V, bit 1 of 8N + 4Z + 2V + C, is set exactly where the first holds, C, bit 0, exactly where the second does
abbrev pub Sets : Outcome → Bool → Bool → Type 0
Sets o v c = (bit_at o.flags 1 ≡ v) × (bit_at o.flags 0 ≡ c)

-- 02, N3: "it is proved for all operands and either carry that these steps set overflow exactly where the exact signed result does not fit 32 bits,
-- and carry exactly where the unsigned sum does not or the difference is below 0."
pub record Exact (carry a b : ℕ) : Type 0 where
  pub add : Sets (outcome_of Add carry a b) (not (fits_signed (signed_of a +ℤ signed_of b))) (not (fits_unsigned (unsigned_of a +ℤ unsigned_of b)))
  pub addx : Sets (outcome_of Addx carry a b) (not (fits_signed (signed_of a +ℤ signed_of b +ℤ pos carry))) (not (fits_unsigned (unsigned_of a +ℤ unsigned_of b +ℤ pos carry)))
  pub sub : Sets (outcome_of Sub carry a b) (not (fits_signed (signed_of a -ℤ signed_of b))) (below_zero (unsigned_of a -ℤ unsigned_of b))
  pub subx : Sets (outcome_of Subx carry a b) (not (fits_signed (signed_of a -ℤ signed_of b -ℤ pos carry))) (below_zero (unsigned_of a -ℤ unsigned_of b -ℤ pos carry))

abbrev pub FlagsExact : Type 0
FlagsExact = (carry a b : ℕ) → carry < 2 → a < 2 ^ 32 → b < 2 ^ 32 → Exact carry a b
