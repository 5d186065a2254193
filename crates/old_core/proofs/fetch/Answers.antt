use Rattle.machine.specs.Ends.{answered, ending_of, settle}
use Rattle.model.specs.OldCore.{fetches, word_of}
use borrow.Author.Tests.{eq-eqb, ne_eqb}
use Rattle.old_core.proofs.fetch.Goals as goal

pub returns-in-Some : goal.returns-in-Some
unfolding fetches word_of
returns-in-Some c = rw (eq-eqb _ _ c.if-c-ne0.false, ← c.word.ensures, c.in-Some.is, ← c.read_instruction.ensures) c.execute.ensures

pub returns-in-None : goal.returns-in-None
unfolding fetches word_of answered settle ending_of
returns-in-None c = rw (eq-eqb _ _ c.if-c-ne0.false, ← c.word.ensures, c.in-None.is)

pub returns-then-c-ne0 : goal.returns-then-c-ne0
unfolding answered settle ending_of
returns-then-c-ne0 c = rw (ne_eqb _ _ c.if-c-ne0.true)
