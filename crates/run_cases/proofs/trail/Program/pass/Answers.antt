use Rattle.run_cases.proofs.Trails.{pass_found}
use Rattle.run_cases.proofs.trail.Program.pass.Goals as goal

pub returns : goal.returns
returns c =
    pass_found _ _ _ _ _ _ c.number.ensures (rw c.from-annulled.ensures at c.pijorrel_old_run.ensures) c.stands_at-same.ensures c.pijorrel_old_run-2.ensures
