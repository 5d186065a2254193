use Rattle.model.specs.NewCore.{following}
use Rattle.states.proofs.NewControl.follow.Goals as goal

pub returns : goal.returns
unfolding following
returns c = λ rs a. rw (← c.add.ensures) (c.go_to.ensures rs a)
