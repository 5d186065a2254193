use Rattle.model.specs.Run.{zeroed}
use Rattle.machine.specs.Ends.{standing_of}
use Rattle.model.specs.OldCore.{old_begun}
use Rattle.model.specs.StateBytes.{is_set}
use Rattle.old_core.proofs.begin.Goals as goal

pub returns : goal.returns
unfolding old_begun zeroed standing_of is_set
returns c = λ a. rw c.further.ensures
