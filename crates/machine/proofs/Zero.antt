-- Register 0 is 0 after every write.
use Rattle.machine.specs.Registers.{put_register, put_y}
use lib.ListN.{get_or, set}
use mathlib.Core.List.{List, [], ◌∷◌}
use mathlib.Core.Path.{◌≡◌, refl}
use Prim.Native.Nat.{ℕ, ◌%◌}

abbrev pub Zero : List ℕ → Type 0
Zero rs = get_or rs 0 0 ≡ 0

pub set_zero : (rs : List ℕ) → Zero (set rs 0 0)
set_zero [] = refl
set_zero (r ∷ rs) = refl

pub put_zero : (rs : List ℕ) (i v : ℕ) → Zero (put_register rs i v)
unfolding put_register
put_zero rs i v = set_zero (set rs (i % 32) v)

pub y_zero : (rs : List ℕ) (v : ℕ) → Zero rs → Zero (put_y rs v)
unfolding put_y
y_zero [] v z = z
y_zero (r ∷ rs) v z = z
