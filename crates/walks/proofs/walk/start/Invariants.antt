use Rattle.model.specs.Walk.{grow}
use Rattle.model.specs.Places.{plains}
use Rattle.model.specs.Records.{numbers_in}
use Rattle.places.specs.Lent.{listed, Kept}
use lib.ListN.{drop}
use mathlib.Core.Path.{◌≡◌}
use Rattle.walks.proofs.walk.start.Given as goal

abbrev pub invariant-loop-j : goal.invariant-loop-j
invariant-loop-j l = record {
  kept : Kept l.initial.table l.table;
  rest : grow l.initial.table.room (listed l.table) (plains (drop l.j (numbers_in l.entries)))
      ≡ grow l.initial.table.room (listed l.initial.table) (plains (numbers_in l.entries));
}
