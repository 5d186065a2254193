use Prim.Native.Nat.{◌-◌}
use mathlib.Core.Path.{◌≡◌}
use Rattle.machine.specs.Ends.{live}
use Rattle.model.specs.Run.{run}
use Rattle.states.proofs.program.steps.Given as goal

-- continued from here, the run is the run from the start
abbrev pub invariant-loop : goal.invariant-loop
invariant-loop g l = let p = g.P.Program in
    run (p.next l.program l.db) (l.count - l.counter) (live (p.whole l.regs l.control l.area))
    ≡ run (p.next l.program l.db) l.count (live (p.whole l.initial.regs l.initial.control l.initial.area))
