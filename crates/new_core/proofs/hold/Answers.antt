use Rattle.machine.specs.Ends.{answered, live, ending_of, settle}
use mathlib.Core.Path.{ap}
use Rattle.model.specs.OldCore.{transfer_of}
use Rattle.model.specs.NewCore.{holds}
use Rattle.new_core.proofs.Records.{not_held}
use borrow.Author.Tests.{eq-eqb, ne_eqb}
use borrow.Enum.Refused.{opened}
use Rattle.new_core.proofs.hold.Goals as goal

pub returns-then-t-eq0 : goal.returns-then-t-eq0
unfolding holds transfer_of answered settle
returns-then-t-eq0 c = λ a. rw (c.in-Jmpl.is, ← c.address-t.ensures, eq-eqb _ _ c.if-t-eq0.true, ← c.put.ensures) (ap live (c.follow.ensures _ a))

pub returns : goal.returns
unfolding holds transfer_of answered settle ending_of
returns c = λ a. rw (c.in-Jmpl.is, ← c.address-t.ensures, ne_eqb _ _ c.if-t-eq0.false)

pub returns-in_default : goal.returns-in_default
unfolding answered settle
returns-in_default c = λ a. rw (not_held _ _ _ _ (opened c.in_default.in_default-own.keys2), c.bad.ensures)
