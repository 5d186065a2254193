use Rattle.machine.specs.Ends.{State}
use Rattle.model.specs.Run.{run, data_of, beyond, lent}
use Rattle.model.specs.NewCore.{new_next, New}
use Rattle.model.specs.StateBytes.{new_runs}
use Rattle.pijorrel_new.proofs.States.{after_run}
use mathlib.Core.Path.{ap, ◌∙◌}
use Rattle.pijorrel_new.proofs.pijorrel_new_run.Goals as goal

pub returns : goal.returns
unfolding new_runs
returns c = let k = c.args in
    after_run _ _ _ _ _ _ _ _ c.encode.ensures.0 (c.encode.ensures.2 _)
    (c.run-k.ensures
    ∙ ap (λ (x : State New). lent (run (new_next k.records.now k.places.now k.base k.size k.db) k.count x) (beyond k.area.now)) (c.decode-c.ensures (data_of k.area.now)))
