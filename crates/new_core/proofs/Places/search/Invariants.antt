use mathlib.Core.Path.{◌≡◌}
use Rattle.model.specs.Records.{rows_in}
use Rattle.model.specs.NewCore.{seek}
use Rattle.new_core.proofs.Places.search.Given as goal

abbrev pub invariant-loop-row : goal.invariant-loop-row
invariant-loop-row l = (l.row-iterator.size ≡ 16) × (seek (rows_in l.row-iterator.rest.now) l.a.0 ≡ seek (rows_in l.self.table.now) l.a.0)
