use Rattle.machine.specs.Ends.{answered, live, settle}
use mathlib.Core.Path.{ap}
use Rattle.new_core.proofs.Records.{never_taken, may_be_taken}
use Rattle.model.proofs.Transfers.{annuls}
use Rattle.new_core.proofs.do_branch.Goals as goal
use Rattle.new_core.proofs.do_branch.Goals.{else-cond-eq0-via-then-cond-eq0+else-not-annul, else-cond-eq0-via-else-cond-eq0}

pub returns-then-not-annul : goal.returns-then-not-annul
unfolding answered settle
returns-then-not-annul c = λ rs a. rw (never_taken _ _ c.if-not-annul.true c.if-cond-eq0.true) (ap live (c.follow.ensures rs a))

pub returns : goal.returns
unfolding answered settle
returns c = λ rs a. elim c.else-cond-eq0.branch [
  | else-cond-eq0-via-then-cond-eq0+else-not-annul w ↦ rw (annuls _ _ w.if-not-annul.false, c.bad.ensures)
  | else-cond-eq0-via-else-cond-eq0 w ↦ rw (may_be_taken _ c.args.annul w.if-cond-eq0.false, c.bad.ensures)
]
