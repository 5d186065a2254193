use Rattle.machine.specs.Ends.{answered, live, settle}
use mathlib.Core.Path.{ap}
use Rattle.model.specs.NewCore.{goes}
use Rattle.new_core.specs.Sought.{sought_of}
use Rattle.new_core.proofs.Places.go_held.Goals as goal

pub returns-in-Some : goal.returns-in-Some
unfolding goes answered settle sought_of
returns-in-Some c = λ rs a. rw (← c.search.ensures, c.in-Some.is) (ap live (c.go_to.ensures rs a))

pub returns-in-None : goal.returns-in-None
unfolding goes answered settle sought_of
returns-in-None c = λ rs a. rw (← c.search.ensures, c.in-None.is, ← c.lost.ensures)
