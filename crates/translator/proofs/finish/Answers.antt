use Rattle.model.specs.Records.{in_full}
use Rattle.places.specs.Lent.{listed}
use Rattle.places.proofs.Lending.{length_listed}
use Rattle.places.proofs.Chains.{ready_same}
use Rattle.translator.proofs.Handed.{finish_short, finish_whole}
use Rattle.groups.proofs.Laying.{needed_le}
use native.Mathlib.Omega.{arith}
use mathlib.Core.Path.{refl, ◌∙◌}
use Rattle.translator.proofs.finish.Goals as goal

pub overflow_cast-result : goal.overflow_cast-result
unfolding listed
overflow_cast-result c =
    let t = c.args.table.now in
    let d = rw c.len-count.ensures at c.lay_out-total.ensures.0 in
    omega (arith, d.all, needed_le (in_full c.args.image.bytes.now c.args.image.base) (listed t), length_listed t, t.ready.within, t.ready.few)

pub invariant_of-table : goal.invariant_of-table
invariant_of-table c =
    let e = c.len-count.ensures in
    record { ready = ready_same c.lay_out-total.new.places (omega arith) (λ i h. c.lay_out-total.ensures.1 i (omega arith)) c.args.table.now.ready }

pub returns-then-records-total : goal.returns-then-records-total
unfolding listed
returns-then-records-total c =
    let d = rw c.len-count.ensures at c.lay_out-total.ensures.0 in
    record {
      handed = finish_short _ _ _ _ (omega arith) refl _ _ _ _ _ d c.if-records-total.true;
      kept = record { bytes = refl; size = omega arith; room = refl };
    }

pub put_groups-requires : goal.put_groups-requires
unfolding listed
put_groups-requires c =
    let d = rw c.len-count.ensures at c.lay_out-total.ensures.0 in
    (d.all ∙ rw (c.rows.ensures.places, c.rows.ensures.count, d.kept), omega arith)

pub overflow_cast-result-3 : goal.overflow_cast-result-3
unfolding listed
overflow_cast-result-3 c =
    let t = c.args.table.now in
    let d = rw c.len-count.ensures at c.lay_out-total.ensures.0 in
    omega (arith, d.all, needed_le (in_full c.args.image.bytes.now c.args.image.base) (listed t), length_listed t, t.ready.within, t.ready.few)

pub returns : goal.returns
unfolding listed
returns c =
    let d = rw c.len-count.ensures at c.lay_out-total.ensures.0 in
    let p = rw (c.rows.ensures.places, c.rows.ensures.count) at c.put_groups.ensures in
    record {
      handed = rw c.len-count.ensures (finish_whole _ _ _ _ (omega arith) (omega arith) _ _ _ _ _ d c.if-records-total.false p);
      kept = record { bytes = refl; size = omega arith; room = refl };
    }
