use Rattle.run_cases.specs.Trails.{followed}
use mathlib.Core.Path.{◌≡◌}
use Prim.Native.Nat.{◌-◌}
use Rattle.run_cases.proofs.trail.Program.follow.Given as goal

abbrev pub invariant-loop-k : goal.invariant-loop-k
invariant-loop-k l =
    followed l.self.image.now l.self.base l.self.db l.entries (l.count - l.k) l.k l.state l.area
    ≡ followed l.self.image.now l.self.base l.self.db l.entries l.count 0 l.initial.state l.initial.area
