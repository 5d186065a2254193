-- The definitions of what words do, opened together: for proofs that compute with them.
use Rattle.machine.specs.Ends.{within, settle}
use Rattle.machine.specs.Registers.{register_of, put_register, y_of, put_y, value_of, address_of}
use Rattle.arithmetic.specs.Arithmetic.{top, sum_of, difference_of, logic_of, shifted_left, shifted_right, shifted_signed, modulo64, product_of, outcome_of, shift_of, carry_of, arithmetic_of}
use Rattle.effects.specs.DataArea.{size_of, value_at, put_value, width_of, sign_of, loaded_at, load_of, store_of}
use Rattle.windows.specs.Windows.{nesting_of, place_of, put_each, laid, taken, cleared, nested, come_in, turned, window_of}
use Rattle.effects.specs.Effect.{trap_of, effect_of}

unfoldable pub machine_open : Unit {0}
unfolding top sum_of difference_of logic_of shifted_left shifted_right shifted_signed modulo64 product_of outcome_of shift_of carry_of arithmetic_of register_of put_register y_of put_y value_of address_of within settle trap_of effect_of size_of value_at put_value width_of sign_of loaded_at load_of store_of
machine_open = tt

unfoldable pub windows_open : Unit {0}
unfolding nesting_of place_of put_each laid taken cleared nested come_in turned window_of
windows_open = tt
