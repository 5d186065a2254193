use Rattle.numbers.proofs.Number.{length_put}
use Rattle.numbers.specs.Number.{up_to, numbers_of}
use Rattle.places.proofs.Rows.{first_kept}
use Rattle.groups.proofs.Grouping.{row_size}
use Rattle.groups.proofs.Laying.{lay_turn, lay_end, row_trans, size_bound}
use native.Mathlib.Nat.{zero-add}
use native.Mathlib.Omega.{arith}
use mathlib.Core.Path.{refl}
use Rattle.groups.proofs.layout.lay_out.Goals as goal

pub loop-i-init : goal.loop-i-init
unfolding numbers_of up_to
loop-i-init c = record { size = refl; same = λ j. (refl, refl, refl); small = omega arith; laying = (zero-add _, refl) }

pub overflow_add-n : goal.overflow_add-n
overflow_add-n c = omega (arith, size_bound _ (c.group_size-size.ensures 0))

pub loop-i-preserved : goal.loop-i-preserved
loop-i-preserved c =
    let i = c.loop-i.invariant in
    rw c.write_number.ensures
    (record {
      size = simp length_put i.size;
      same = λ j. row_trans _ _ _ j (first_kept _ _ _ j) (i.same j);
      small = omega (arith, size_bound _ (c.group_size-size.ensures 0), i.small);
      laying = lay_turn _ _ _ _ _ _ i.same (omega arith) (row_size _ _ _ _ c.address.ensures c.is_held.ensures c.group_size-size.ensures) (c.requires.2 _ (omega arith)) (omega arith) (omega arith) i.laying;
    })

pub returns : goal.returns
returns c = (lay_end _ _ _ _ _ _ c.loop-i.invariant.same (omega arith) (omega arith) c.loop-i.invariant.laying, λ i h. c.loop-i.invariant.same i)
