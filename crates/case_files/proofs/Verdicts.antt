-- A law of verdicts: whether a case agrees, as a number.
use mir.Val.{bool_byte}
use mathlib.Core.Bool.{Bool, true, false}
use mathlib.Core.Path.{◌≡◌, refl}
use Rattle.numbers.specs.Choice.{pick}

pub bit_of_lem : (b : Bool) → bool_byte b ≡ pick b 1 0
bit_of_lem true = refl
bit_of_lem false = refl
