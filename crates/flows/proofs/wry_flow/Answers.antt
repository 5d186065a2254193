use Rattle.words.specs.Reader.{wry_strays, unused_set, strictly}
use Rattle.words.specs.Flow.{flow_of}
use borrow.Author.Tests.{ne_eqb}
use Rattle.flows.proofs.wry_flow.Goals as goal

pub returns-then-rd-ne0 : goal.returns-then-rd-ne0
unfolding flow_of strictly unused_set wry_strays
returns-then-rd-ne0 c = λ s. rw (c.requires, ← c.rd.ensures, ne_eqb _ _ c.if-rd-ne0.true)

pub returns : goal.returns
unfolding flow_of strictly unused_set wry_strays
returns c = λ s. rw (c.requires, ← c.rd.ensures, c.if-rd-ne0.false)
