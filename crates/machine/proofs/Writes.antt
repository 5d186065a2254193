-- A register is written: it stands there, and every other number but register 0, which is 0, stays.
use Prim.Native.Nat.{ℕ, ◌%◌}
use native.Mathlib.Omega.{arith}
use mathlib.Core.Path.{◌≡◌, ◌∙◌}
use mathlib.Core.List.{List}
use lib.ListN.{length, get_or, set}
use lib.Seq.{get_or-set_same, get_or-set_other}
use Rattle.machine.specs.Registers.{file_size, put_register}

-- what stands at j but for the last write, which makes register 0 be 0
pub not_first : (rs : List ℕ) (rd t j : ℕ) → (j ≡ 0 → ⊥) → get_or (put_register rs rd t) j 0 ≡ get_or (set rs (rd % 32) t) j 0
unfolding put_register
not_first rs rd t j n = get_or-set_other (set rs (rd % 32) t) 0 j 0 0 n

pub put_own : (rs : List ℕ) (rd t : ℕ) → length rs ≡ file_size → (rd % 32 ≡ 0 → ⊥) → get_or (put_register rs rd t) (rd % 32) 0 ≡ t
put_own rs rd t l n = not_first rs rd t (rd % 32) n ∙ get_or-set_same rs (rd % 32) t 0 (omega (arith, l))

pub put_far : (rs : List ℕ) (rd t j : ℕ) → (j ≡ 0 → ⊥) → (j ≡ rd % 32 → ⊥) → get_or (put_register rs rd t) j 0 ≡ get_or rs j 0
put_far rs rd t j n m = not_first rs rd t j n ∙ get_or-set_other rs (rd % 32) j t 0 m
