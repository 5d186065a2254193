use mathlib.Core.Path.{ap, ◌∙◌}
use Rattle.words.specs.Reader.{format2_of, unused_set, strictly}
use Rattle.words.specs.Flow.{flow_of}
use Rattle.words.proofs.Reader.{behind_row2}
use Rattle.words.proofs.Strict.{beside_none}
use Rattle.flows.proofs.flow2.Goals as goal

pub other_flow2-requires : goal.other_flow2-requires
other_flow2-requires c = c.requires

pub returns-in-0 : goal.returns-in-0
unfolding flow_of format2_of strictly unused_set
returns-in-0 c = λ rs1 x. rw (c.in-0.is, beside_none _ _ c.requires.0)

pub returns-in-1 : goal.returns-in-1
unfolding flow_of format2_of strictly unused_set
returns-in-1 c = λ rs1 x. rw (c.in-1.is, beside_none _ _ c.requires.0)

pub returns-in-2 : goal.returns-in-2
unfolding flow_of format2_of strictly unused_set
returns-in-2 c = λ rs1 x. rw (c.in-2.is, beside_none _ _ c.requires.0)

pub returns-in-3 : goal.returns-in-3
unfolding flow_of format2_of strictly unused_set
returns-in-3 c = λ rs1 x. rw (c.in-3.is, beside_none _ _ c.requires.0)

pub returns-in-4 : goal.returns-in-4
unfolding flow_of format2_of strictly unused_set
returns-in-4 c = λ rs1 x. rw (c.in-4.is, beside_none _ _ c.requires.0)

pub returns-in-5 : goal.returns-in-5
unfolding flow_of format2_of strictly unused_set
returns-in-5 c = λ rs1 x. rw (c.in-5.is, beside_none _ _ c.requires.0)

pub returns-in-6 : goal.returns-in-6
unfolding flow_of format2_of strictly unused_set
returns-in-6 c = λ rs1 x. rw (c.in-6.is, beside_none _ _ c.requires.0)

pub returns-in-7 : goal.returns-in-7
unfolding flow_of format2_of strictly unused_set
returns-in-7 c = λ rs1 x. rw (c.in-7.is, beside_none _ _ c.requires.0)

pub returns-in-8 : goal.returns-in-8
unfolding flow_of format2_of strictly unused_set
returns-in-8 c = λ rs1 x. rw (c.in-8.is, beside_none _ _ c.requires.0)

pub returns-in-10 : goal.returns-in-10
unfolding flow_of format2_of strictly unused_set
returns-in-10 c = λ rs1 x. rw (c.in-10.is, beside_none _ _ c.requires.0)

pub returns-in-11 : goal.returns-in-11
unfolding flow_of format2_of strictly unused_set
returns-in-11 c = λ rs1 x. rw (c.in-11.is, beside_none _ _ c.requires.0)

pub returns-in-12 : goal.returns-in-12
unfolding flow_of format2_of strictly unused_set
returns-in-12 c = λ rs1 x. rw (c.in-12.is, beside_none _ _ c.requires.0)

pub returns-in-16 : goal.returns-in-16
unfolding flow_of format2_of strictly unused_set
returns-in-16 c = λ rs1 x. rw (c.in-16.is, beside_none _ _ c.requires.0)

pub returns-in-17 : goal.returns-in-17
unfolding flow_of format2_of strictly unused_set
returns-in-17 c = λ rs1 x. rw (c.in-17.is, beside_none _ _ c.requires.0)

pub returns-in-18 : goal.returns-in-18
unfolding flow_of format2_of strictly unused_set
returns-in-18 c = λ rs1 x. rw (c.in-18.is, beside_none _ _ c.requires.0)

pub returns-in-19 : goal.returns-in-19
unfolding flow_of format2_of strictly unused_set
returns-in-19 c = λ rs1 x. rw (c.in-19.is, beside_none _ _ c.requires.0)

pub returns-in-20 : goal.returns-in-20
unfolding flow_of format2_of strictly unused_set
returns-in-20 c = λ rs1 x. rw (c.in-20.is, beside_none _ _ c.requires.0)

pub returns-in-21 : goal.returns-in-21
unfolding flow_of format2_of strictly unused_set
returns-in-21 c = λ rs1 x. rw (c.in-21.is, beside_none _ _ c.requires.0)

pub returns-in-22 : goal.returns-in-22
unfolding flow_of format2_of strictly unused_set
returns-in-22 c = λ rs1 x. rw (c.in-22.is, beside_none _ _ c.requires.0)

pub returns-in-23 : goal.returns-in-23
unfolding flow_of format2_of strictly unused_set
returns-in-23 c = λ rs1 x. rw (c.in-23.is, beside_none _ _ c.requires.0)

pub returns-in-24 : goal.returns-in-24
unfolding flow_of format2_of strictly unused_set
returns-in-24 c = λ rs1 x. rw (c.in-24.is, beside_none _ _ c.requires.0)

pub returns-in-26 : goal.returns-in-26
unfolding flow_of format2_of strictly unused_set
returns-in-26 c = λ rs1 x. rw (c.in-26.is, beside_none _ _ c.requires.0)

pub returns-in-27 : goal.returns-in-27
unfolding flow_of format2_of strictly unused_set
returns-in-27 c = λ rs1 x. rw (c.in-27.is, beside_none _ _ c.requires.0)

pub returns-in-28 : goal.returns-in-28
unfolding flow_of format2_of strictly unused_set
returns-in-28 c = λ rs1 x. rw (c.in-28.is, beside_none _ _ c.requires.0)

pub returns-in_default : goal.returns-in_default
returns-in_default c = λ rs1 x. c.other_flow2.ensures rs1 x ∙ ap (λ i. flow_of (strictly c.args.word i)) (behind_row2 _ _ _ rs1 x c.in_default.in_default-own.rest)
