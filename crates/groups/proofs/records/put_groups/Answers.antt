use Rattle.numbers.specs.Number.{up_to, numbers_of}
use Rattle.model.specs.Records.{in_full}
use Rattle.places.proofs.Rows.{length_places}
use Rattle.places.specs.Table.{places_in}
use Rattle.groups.proofs.Laying.{needed_le, needed_turn, next_place}
use Rattle.groups.proofs.Putting.{put_turn, put_end}
use borrow.Author.Rules.{rules}
use native.Mathlib.Nat.{zero-add}
use native.Mathlib.Omega.{arith}
use Prim.Native.Nat.{◌≤◌, ◌<◌}
use mathlib.Core.Path.{refl, sym, ◌∙◌}
use Rattle.groups.proofs.records.put_groups.Goals as goal

pub overflow_cast-firsts : goal.overflow_cast-firsts
overflow_cast-firsts c =
    let r = c.args.rows in
    let n = length_places r.places.now r.count in
    omega (arith, c.requires.0, needed_le (in_full c.args.image.bytes.now c.args.image.base) (places_in r.places.now r.count), n, r.tabled.few)

pub loop-i-init : goal.loop-i-init
unfolding numbers_of up_to
loop-i-init c = record { lent = refl; size = refl; all = zero-add _ ∙ sym c.requires.0; numbers = refl }

pub put_group-requires : goal.put_group-requires
put_group-requires c =
    let i = c.loop-i.invariant in
    let h : c.loop-i.i < c.args.rows.count = omega arith in
    let t = needed_turn _ (next_place _ _ _ refl h) refl _ _ i.all in
    (h, omega (arith, t, c.requires.1, i.size))

pub loop-i-preserved : goal.loop-i-preserved
loop-i-preserved c =
    let i = c.loop-i.invariant in
    let e = c.put_group.ensures in
    let h : c.loop-i.i < c.args.rows.count = omega arith in
    let turn = put_turn _ _ _ _ _ _ _ h i.all i.numbers e in
    record { lent = e.lent ∙ i.lent; size = e.size ∙ i.size; all = turn.0; numbers = turn.1 }

pub returns : goal.returns
returns c =
    let k : c.args.rows.count ≤ c.loop-i.i = omega arith in
    let h = put_end _ _ _ _ _ c.loop-i.records k c.loop-i.invariant.all c.loop-i.invariant.numbers in
    search (rules, h)
