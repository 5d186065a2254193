use Rattle.machine.specs.Ends.{State}
use Rattle.model.specs.Run.{lent}
use Rattle.model.specs.NewCore.{new_begun, New}
use Rattle.model.specs.StateBytes.{new_in, new_begins}
use Rattle.pijorrel_new.proofs.States.{same_machine, after_run}
use mathlib.Core.List.{[]}
use mathlib.Core.Path.{ap, ◌∙◌}
use Rattle.pijorrel_new.proofs.pijorrel_new_begin.Goals as goal

pub returns : goal.returns
unfolding new_begins new_in
returns c = let k = c.args in
    after_run _ _ [] _ [] _ _ _ c.encode.ensures.0 (c.encode.ensures.2 [])
    (ap (λ (x : State New). lent x []) (c.begin-k.ensures [] ∙ ap (new_begun k.places.now k.base k.size k.a) (same_machine (c.decode-c.ensures []))))
