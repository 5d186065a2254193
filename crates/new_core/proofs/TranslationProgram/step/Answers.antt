use Rattle.machine.specs.Ends.{answered, settle}
use Rattle.model.specs.NewCore.{new_next, does}
use Rattle.new_core.proofs.Records.{at_hand, past_last}
use Rattle.new_core.proofs.TranslationProgram.step.Goals as goal

pub returns-then-n-self : goal.returns-then-n-self
unfolding new_next
returns-then-n-self c = rw (at_hand _ _ c.if-n-self.true) c.obey.ensures

pub returns : goal.returns
unfolding new_next does answered settle
returns c = rw (past_last _ _ c.if-n-self.false, c.bad.ensures)
