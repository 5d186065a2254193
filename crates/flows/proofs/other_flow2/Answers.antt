use native.Mathlib.Omega.{arith}
use mathlib.Core.Path.{ap}
use Rattle.words.specs.Reader.{unused_set, strictly}
use Rattle.words.specs.Flow.{flow_of}
use Rattle.words.proofs.Reader.{no_row_other}
use Rattle.words.proofs.Strict.{beside_none, shift_none}
use Rattle.flows.proofs.other_flow2.Goals as goal

pub trap_flow-requires : goal.trap_flow-requires
trap_flow-requires c = beside_none _ _ c.requires.0

pub returns-in-37 : goal.returns-in-37
unfolding flow_of strictly unused_set
returns-in-37 c = λ rs1 x. rw (c.in-37.is, shift_none _ _ c.requires.0 (omega (arith, c.in-37.is)) (omega (arith, c.in-37.is)))

pub returns-in-38 : goal.returns-in-38
unfolding flow_of strictly unused_set
returns-in-38 c = λ rs1 x. rw (c.in-38.is, shift_none _ _ c.requires.0 (omega (arith, c.in-38.is)) (omega (arith, c.in-38.is)))

pub returns-in-39 : goal.returns-in-39
unfolding flow_of strictly unused_set
returns-in-39 c = λ rs1 x. rw (c.in-39.is, shift_none _ _ c.requires.0 (omega (arith, c.in-39.is)) (omega (arith, c.in-39.is)))

pub returns-in-40 : goal.returns-in-40
unfolding flow_of strictly unused_set
returns-in-40 c = λ rs1 x. rw (c.in-40.is, c.requires.1 c.in-40.is)

pub returns-in-48 : goal.returns-in-48
unfolding flow_of strictly unused_set
returns-in-48 c = λ rs1 x. rw (c.in-48.is, beside_none _ _ c.requires.0, c.requires.2 c.in-48.is)

pub returns-in-56 : goal.returns-in-56
unfolding flow_of strictly unused_set
returns-in-56 c = λ rs1 x. rw (c.in-56.is, beside_none _ _ c.requires.0)

pub returns-in-58 : goal.returns-in-58
returns-in-58 c = λ rs1 x. rw c.in-58.is (c.trap_flow.ensures rs1 x)

pub returns-in-60 : goal.returns-in-60
unfolding flow_of strictly unused_set
returns-in-60 c = λ rs1 x. rw (c.in-60.is, beside_none _ _ c.requires.0)

pub returns-in-61 : goal.returns-in-61
unfolding flow_of strictly unused_set
returns-in-61 c = λ rs1 x. rw (c.in-61.is, beside_none _ _ c.requires.0)

pub returns-in_default : goal.returns-in_default
unfolding flow_of strictly unused_set
returns-in_default c = λ rs1 x. ap (λ i. flow_of (strictly c.args.word i)) (no_row_other _ _ _ rs1 x c.in_default.in_default-own.rest)
