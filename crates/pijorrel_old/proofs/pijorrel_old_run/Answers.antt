use Rattle.machine.specs.Ends.{State}
use Rattle.model.specs.Run.{run, data_of, beyond, lent}
use Rattle.model.specs.OldCore.{old_next, Old}
use Rattle.model.specs.StateBytes.{old_runs}
use Rattle.pijorrel_old.proofs.States.{after_run}
use mathlib.Core.Path.{ap, ◌∙◌}
use Rattle.pijorrel_old.proofs.pijorrel_old_run.Goals as goal

pub returns : goal.returns
unfolding old_runs
returns c = let k = c.args in
    after_run _ _ _ _ _ _ _ _ c.encode.ensures.0 (c.encode.ensures.2 _)
    (c.run-k.ensures ∙ ap (λ (x : State Old). lent (run (old_next k.image.now k.base k.db) k.count x) (beyond k.area.now)) (c.decode-c.ensures (data_of k.area.now)))
