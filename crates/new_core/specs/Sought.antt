-- What a search of the place table answers, as the definitions have it.
use Rattle.std.specs.Prelude.{ℕ, Some, None}
use Rattle.std.specs.Prelude.{Option as Found}
use Rattle.std.proofs.Math.Option.{Option, none, some}
use Rattle.machine.specs.declared.TargetPc.{TargetPc}

unfoldable pub sought_of : Found TargetPc → Option ℕ
sought_of (Some r) = some r.0
sought_of None = none
