use Rattle.model.specs.Walk.{walk}
use Rattle.places.specs.Lent.{listed, Kept}
use mathlib.Core.Path.{◌≡◌}
use Prim.Native.Nat.{suc, ◌-◌, ◌≤◌}
use Rattle.walks.proofs.walk.walk.Given as goal

abbrev pub invariant-loop-i : goal.invariant-loop-i
invariant-loop-i l = record {
  in_range : l.i ≤ l.initial.table.room;
  kept : Kept l.initial.table l.table;
  rest : walk l.image.bytes.now l.image.base (suc l.initial.table.room - l.i) l.initial.table.room l.i (listed l.table)
      ≡ walk l.image.bytes.now l.image.base (suc l.initial.table.room) l.initial.table.room 0 (listed l.initial.table);
}

abbrev pub decreases-loop-i : goal.decreases-loop-i
decreases-loop-i l = l.initial.table.room - l.i
