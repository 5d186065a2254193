use Rattle.effects.proofs.Effects.{effects_end, after_effect}
use Rattle.effects.specs.Effect.{machine, Machine}
use Rattle.machine.proofs.Ends.{passed_on}
use Rattle.old_core.proofs.Words.{no_transfer}
use mathlib.Core.Path.{◌∙◌, sym, ap}
use Rattle.machine.specs.Ends.{answered, live, ending_of, settle}
use Rattle.model.specs.OldCore.{transfer_of, executes, follows, old}
use Rattle.model.specs.StateBytes.{is_set}
use Rattle.states.specs.OldState.{old_of}
use borrow.Enum.Refused.{opened}
use Rattle.old_core.proofs.execute.Goals as goal

pub returns-in-Illegal : goal.returns-in-Illegal
unfolding executes transfer_of answered settle ending_of
returns-in-Illegal c = rw c.in-Illegal.is

pub returns-in-Call : goal.returns-in-Call
unfolding executes transfer_of answered settle is_set
returns-in-Call c = rw (c.in-Call.is, ← c.target.ensures, ← c.put.ensures) (ap live (c.advance.ensures _ _))

pub returns-in-Bicc : goal.returns-in-Bicc
unfolding executes transfer_of answered settle
returns-in-Bicc c = rw c.in-Bicc.is (ap live (c.branch-c.ensures _ _))

pub returns-in-Jmpl : goal.returns-in-Jmpl
unfolding executes transfer_of
returns-in-Jmpl c = rw c.in-Jmpl.is (c.jump.ensures _)

pub returns-in_ok-flags-in_default : goal.returns-in_ok-flags-in_default
unfolding answered
returns-in_ok-flags-in_default c = let k = c.args in
    let m = machine k.regs.now k.c.flags.nzvc k.area.now in
    let e = after_effect (λ (x : Machine). old x k.c.pc.0 k.c.npc.0 (is_set k.c.annul)) (follows k.c.npc.0) _ _ _ _ _ _ _ (effects_end k.db k.i m) c.perform.ensures in
    ap live (c.follow.ensures _ _) ∙ (rw c.in_ok-flags-in_default.was at e)
    ∙ ap (settle (old_of k.regs.now k.c k.area.now)) (sym (no_transfer k.db k.i m k.c.pc.0 k.c.npc.0 (opened c.in_default.in_default-own.keys5)))

pub returns-in_err-flags-in_default : goal.returns-in_err-flags-in_default
unfolding answered
returns-in_err-flags-in_default c = let k = c.args in
    let m = machine k.regs.now k.c.flags.nzvc k.area.now in
    let e = after_effect (λ (x : Machine). old x k.c.pc.0 k.c.npc.0 (is_set k.c.annul)) (follows k.c.npc.0) _ _ _ _ _ _ _ (effects_end k.db k.i m) c.perform.ensures in
    passed_on _ _ _ _ c.from_residual.ensures.1 ∙ (rw c.in_err-flags-in_default.was at e)
    ∙ ap (settle (old_of k.regs.now k.c k.area.now)) (sym (no_transfer k.db k.i m k.c.pc.0 k.c.npc.0 (opened c.in_default.in_default-own.keys5)))
