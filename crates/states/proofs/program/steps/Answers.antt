use native.Mathlib.Nat.{sub-zero}
use native.Mathlib.Omega.{arith}
use mathlib.Core.Path.{◌∙◌}
use Rattle.machine.specs.Ends.{answered, standing_of}
use Rattle.model.proofs.Runs.{run_on, run_done, run_ended, step_going}
use Rattle.states.proofs.program.steps.Goals as goal

pub loop-init : goal.loop-init
loop-init g c = rw sub-zero

pub loop-preserved : goal.loop-preserved
unfolding answered
loop-preserved g c = run_on _ _ _ _ _ _ (omega arith) c.loop.invariant ((rw c.in-Ok.is at c.step.ensures) ∙ step_going _ _)

pub returns-in-Err : goal.returns-in-Err
unfolding answered standing_of
returns-in-Err g c =
    run_ended _ _ _ _ _ (run_on _ _ _ _ _ _ (omega arith) c.loop.invariant ((rw c.in-Err.is at c.step.ensures) ∙ step_going _ _))

pub returns : goal.returns
unfolding standing_of
returns g c = run_done _ _ _ _ _ (omega arith) c.loop.invariant
