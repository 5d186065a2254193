use Rattle.groups.specs.Layout.{size}
use Rattle.groups.proofs.Grouping.{outside_group, word_group}
use Rattle.groups.proofs.layout.group_size.Goals as goal

pub returns-in-Some : goal.returns-in-Some
returns-in-Some c = λ n. rw (word_group c.args.image.bytes.now c.args.image.base c.args.p.0 c.word.ensures c.args.held n c.in-Some.is c.read_flow.ensures) (c.word_size.ensures _ _ n)

pub returns-in-None : goal.returns-in-None
unfolding size
returns-in-None c = λ n. rw (outside_group c.args.image.bytes.now c.args.image.base c.args.p.0 c.word.ensures c.args.held n c.in-None.is)
