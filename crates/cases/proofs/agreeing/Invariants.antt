use lib.ListN.{length}
use Prim.Native.Nat.{◌+◌, ◌*◌, ◌≤◌}
use Rattle.cases.proofs.agreeing.Given as goal

abbrev pub invariant-loop-k : goal.invariant-loop-k
invariant-loop-k g l = (l.entries ≤ 4294967295 * l.k-counter) × (l.at ≤ length l.bytes + 4)
