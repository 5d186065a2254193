use Rattle.machine.specs.Ends.{answered, live, settle}
use mathlib.Core.Path.{ap}
use Rattle.model.specs.NewCore.{chooses}
use borrow.Author.Tests.{le-leb, lt-leb}
use Rattle.new_core.proofs.choose.Goals as goal

pub returns-then-cond-gt15 : goal.returns-then-cond-gt15
unfolding chooses answered settle
returns-then-cond-gt15 c = λ rs a. rw (lt-leb _ _ c.if-cond-gt15.true, c.bad.ensures)

pub returns-then-holds : goal.returns-then-holds
unfolding chooses answered settle
returns-then-holds c = λ rs a. rw (le-leb _ _ c.if-cond-gt15.false, ← c.holds.ensures, c.if-holds.true) (ap live (c.go_to.ensures rs a))

pub returns : goal.returns
unfolding chooses answered settle
returns c = λ rs a. rw (le-leb _ _ c.if-cond-gt15.false, ← c.holds.ensures, c.if-holds.false) (ap live (c.follow.ensures rs a))
