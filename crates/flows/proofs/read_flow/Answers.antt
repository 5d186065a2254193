use native.Mathlib.Omega.{arith}
use mathlib.Core.Path.{sym, ap, ◌∙◌}
use Rattle.words.specs.Reader.{by_format, unused_set, strictly}
use Rattle.words.specs.Flow.{flow_of}
use Rattle.words.specs.declared.Flow.TheVariants.{Calls}
use Rattle.words.proofs.Reader.{by_op_lem, top_two}
use Rattle.words.proofs.Strict.{clear_0, clear_3, beside_none, strays_flow}
use Rattle.flows.proofs.read_flow.Goals as goal

pub returns-then-k-eq0 : goal.returns-then-k-eq0
unfolding by_format
returns-then-k-eq0 c = c.flow0.ensures ∙ ap flow_of (clear_0 _ ∙ sym (by_op_lem _ _ 0 c.op-k.ensures c.if-k-eq0.true))

pub returns-then-k-lt2 : goal.returns-then-k-lt2
unfolding by_format flow_of strictly unused_set
returns-then-k-lt2 c = ap Calls c.disp30.ensures ∙ sym (ap flow_of (by_op_lem _ _ 1 c.op-k.ensures (omega arith)))

pub returns-then-operand_strays : goal.returns-then-operand_strays
unfolding flow_of
returns-then-operand_strays c = ap flow_of (strays_flow _ (omega (arith, c.op-k.ensures)) (rw (← c.op3.ensures) (sym c.operand_strays.ensures ∙ c.if-operand_strays.true)))

pub flow2_or_y-requires : goal.flow2_or_y-requires
flow2_or_y-requires c = rw (c.op3-then-k-eq2.ensures, ← c.op3.ensures) (sym c.operand_strays.ensures ∙ c.if-operand_strays.false)

pub returns-then-k-eq2 : goal.returns-then-k-eq2
unfolding by_format
returns-then-k-eq2 c =
    rw (
      by_op_lem _ _ 2 c.op-k.ensures c.if-k-eq2.true,
      ← c.op3-then-k-eq2.ensures,
    ) (c.flow2_or_y.ensures _ _)

pub returns : goal.returns
unfolding by_format
returns c =
    rw (
      by_op_lem _ _ 3 c.op-k.ensures (omega (arith, top_two _ _ c.op-k.ensures)),
      ← c.op3-2.ensures,
    ) (c.flow3.ensures _ _ _ ∙ ap flow_of (clear_3 _ _ _ _ _ (beside_none _ _ (sym c.operand_strays.ensures ∙ c.if-operand_strays.false))))
