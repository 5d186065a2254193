use Rattle.model.specs.OldCore.{follows}
use Rattle.model.specs.StateBytes.{is_set}
use mathlib.Core.Path.{◌∙◌}
use Rattle.states.proofs.OldControl.follow.Goals as goal

pub returns : goal.returns
unfolding follows is_set
returns c = λ rs a. c.advance.ensures rs a ∙ rw c.further.ensures
