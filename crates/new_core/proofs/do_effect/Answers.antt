use Rattle.effects.proofs.Effects.{effects_end, after_effect}
use Rattle.effects.specs.Effect.{machine, Machine}
use Rattle.machine.proofs.Ends.{passed_on}
use Rattle.machine.specs.Ends.{answered, live}
use Rattle.model.specs.NewCore.{following, new}
use mathlib.Core.Path.{◌∙◌, ap}
use Rattle.new_core.proofs.do_effect.Goals as goal

pub returns : goal.returns
unfolding answered
returns c = let k = c.args in
    let m = machine k.regs.now k.c.flags.nzvc k.area.now in
    let e = after_effect (λ (x : Machine). new x k.c.at.0 k.c.held.0) (following k.c.at.0 k.c.held.0) _ _ _ _ _ _ _ (effects_end k.db k.i m) c.perform.ensures in
    ap live (c.follow.ensures _ _) ∙ (rw c.in_ok-flags.was at e)

pub returns-in_err-flags : goal.returns-in_err-flags
unfolding answered
returns-in_err-flags c = let k = c.args in
    let m = machine k.regs.now k.c.flags.nzvc k.area.now in
    let e = after_effect (λ (x : Machine). new x k.c.at.0 k.c.held.0) (following k.c.at.0 k.c.held.0) _ _ _ _ _ _ _ (effects_end k.db k.i m) c.perform.ensures in
    passed_on _ _ _ _ c.from_residual.ensures.1 ∙ (rw c.in_err-flags.was at e)
