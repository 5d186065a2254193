use Rattle.machine.specs.Ends.{answered, settle, within}
use Rattle.effects.specs.Effect.{effect_of}
use Rattle.model.specs.Places.{may_be_held}
use Rattle.model.specs.OldCore.{transfer_of}
use Rattle.model.specs.NewCore.{fit}
use Rattle.new_core.proofs.Records.{fits}
use mathlib.Core.Logic.{inl, inr}
use borrow.Enum.Refused.{opened}
use Rattle.new_core.proofs.do_word.Goals as goal

pub returns-in-Illegal : goal.returns-in-Illegal
unfolding fit transfer_of answered settle
returns-in-Illegal c = let b = c.bad.ensures in
    elim c.in-Illegal.is [ inl e ↦ rw (e, b) | inr r ↦ elim r [ inl (disp, e) ↦ rw (e, b) | inr (rd, rs1, x, e) ↦ rw (e, b) ] ]

pub returns-in-Bicc : goal.returns-in-Bicc
unfolding fit transfer_of may_be_held effect_of within
returns-in-Bicc c = rw c.in-Bicc.is (c.do_branch.ensures _ _)

pub returns-in_default : goal.returns-in_default
returns-in_default c = rw (fits c.args.i (opened c.in_default.in_default-own.keys3)) c.do_effect.ensures
