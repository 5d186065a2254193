use native.Mathlib.Omega.{arith}
use mathlib.Core.Path.{sym, ap, ◌∙◌}
use Rattle.words.specs.Reader.{by_format, unused_set, strictly}
use Rattle.words.specs.declared.Instruction.TheVariants.{Call}
use Rattle.words.proofs.Reader.{by_op_lem, top_two}
use Rattle.words.proofs.Strict.{clear_0}
use Rattle.words.proofs.read_instruction.Goals as goal

pub returns-in-0 : goal.returns-in-0
unfolding by_format
returns-in-0 c = c.format0.ensures ∙ clear_0 _ ∙ sym (by_op_lem _ _ 0 c.op.ensures c.in-0.is)

pub returns-in-1 : goal.returns-in-1
unfolding by_format strictly unused_set
returns-in-1 c = ap Call c.disp30.ensures ∙ sym (by_op_lem _ _ 1 c.op.ensures c.in-1.is)

pub returns-in-2 : goal.returns-in-2
unfolding by_format
returns-in-2 c = rw (by_op_lem _ _ 2 c.op.ensures c.in-2.is, ← c.op3.ensures) c.format2.ensures

pub returns-in_default : goal.returns-in_default
unfolding by_format
returns-in_default c =
    rw (by_op_lem _ _ 3 c.op.ensures (omega (arith, top_two _ _ c.op.ensures)), ← c.op3-in_default.ensures) c.format3.ensures
