use Rattle.machine.specs.Ends.{answered, live, ending_of, settle}
use Rattle.model.specs.OldCore.{jumps}
use Rattle.model.specs.StateBytes.{is_set}
use borrow.Author.Tests.{eq-eqb, ne_eqb}
use mathlib.Core.Path.{ap}
use Rattle.old_core.proofs.jump.Goals as goal

pub returns-then-t-eq0 : goal.returns-then-t-eq0
unfolding jumps answered settle is_set
returns-then-t-eq0 c = λ a. rw (← c.address-t.ensures, eq-eqb _ _ c.if-t-eq0.true, ← c.put.ensures) (ap live (c.advance.ensures _ a))

pub returns : goal.returns
unfolding jumps answered settle ending_of
returns c = λ a. rw (← c.address-t.ensures, ne_eqb _ _ c.if-t-eq0.false)
