use Rattle.numbers.specs.Number.{numbers_of}
use Rattle.model.specs.Records.{in_full, records_from, records_numbers}
use Rattle.places.specs.Table.{places_in}
use Rattle.groups.specs.Layout.{needed, first_in}
use lib.ListN.{length, drop}
use mathlib.Core.List.{◌++◌}
use mathlib.Core.Path.{◌≡◌}
use Prim.Native.Nat.{◌+◌, ◌*◌}
use Rattle.groups.proofs.records.put_groups.Given as goal

abbrev pub invariant-loop-i : goal.invariant-loop-i
invariant-loop-i l =
    let lay = in_full l.image.bytes.now l.image.base in
    let bytes = l.fn.rows.places.now in
    let count = l.fn.rows.count in
    record {
      lent : l.records.bytes.ghost_name ≡ l.initial.records.bytes.ghost_name;
      size : length l.records.bytes.now ≡ length l.initial.records.bytes.now;
      all : l.records.count + needed lay (drop l.i (places_in bytes count)) ≡ l.total;
      numbers : numbers_of l.records.bytes.now (3 * l.records.count) ++ records_numbers (records_from lay (first_in bytes count l.total) (drop l.i (places_in bytes count)))
          ≡ records_numbers (records_from lay (first_in bytes count l.total) (places_in bytes count));
    }
