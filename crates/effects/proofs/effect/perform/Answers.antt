use Rattle.std.proofs.Common.{◌∙◌}
use Rattle.machine.proofs.Ends.{passed_on, settle_within}
use Rattle.machine.specs.Ends.{answered}
use Rattle.effects.specs.Effect.{effect_of, machine, with_registers, with_area}
use Rattle.effects.proofs.effect.perform.Goals as goal

pub returns-in_err-trap-in-Ticc : goal.returns-in_err-trap-in-Ticc
unfolding effect_of answered
returns-in_err-trap-in-Ticc c =
    let m = machine c.args.regs.now c.args.f.nzvc c.args.area.now in
    rw c.in-Ticc.is (passed_on _ _ _ _ c.from_residual.ensures.1 ∙ settle_within (λ (u : Unit {0}). m) _ _ _ _ c.in_err-trap-in-Ticc.ensures)

pub returns-in_ok-trap-in-Ticc : goal.returns-in_ok-trap-in-Ticc
unfolding effect_of answered
returns-in_ok-trap-in-Ticc c =
    let m = machine c.args.regs.now c.args.f.nzvc c.args.area.now in
    rw c.in-Ticc.is (settle_within (λ (u : Unit {0}). m) _ _ _ _ c.in_ok-trap-in-Ticc.ensures)

pub returns-in_err-load-in-Load : goal.returns-in_err-load-in-Load
unfolding effect_of answered
returns-in_err-load-in-Load c =
    let m = machine c.args.regs.now c.args.f.nzvc c.args.area.now in
    rw c.in-Load.is (passed_on _ _ _ _ c.from_residual-in_err-load-in-Load.ensures.1 ∙ settle_within (with_registers m) _ _ _ _ c.in_err-load-in-Load.ensures)

pub returns-in_ok-load-in-Load : goal.returns-in_ok-load-in-Load
unfolding effect_of answered
returns-in_ok-load-in-Load c =
    let m = machine c.args.regs.now c.args.f.nzvc c.args.area.now in
    rw c.in-Load.is (settle_within (with_registers m) _ _ _ _ c.in_ok-load-in-Load.ensures)

pub returns-in_err-store-in-Store : goal.returns-in_err-store-in-Store
unfolding effect_of answered
returns-in_err-store-in-Store c =
    let m = machine c.args.regs.now c.args.f.nzvc c.args.area.now in
    rw c.in-Store.is (passed_on _ _ _ _ c.from_residual-in_err-store-in-Store.ensures.1 ∙ settle_within (with_area m) _ _ _ _ c.in_err-store-in-Store.ensures)

pub returns-in_ok-store-in-Store : goal.returns-in_ok-store-in-Store
unfolding effect_of answered
returns-in_ok-store-in-Store c =
    let m = machine c.args.regs.now c.args.f.nzvc c.args.area.now in
    rw c.in-Store.is (settle_within (with_area m) _ _ _ _ c.in_ok-store-in-Store.ensures)

pub returns-in_err-window-in-Window : goal.returns-in_err-window-in-Window
unfolding effect_of answered
returns-in_err-window-in-Window c =
    let m = machine c.args.regs.now c.args.f.nzvc c.args.area.now in
    rw c.in-Window.is (passed_on _ _ _ _ c.from_residual-in_err-window-in-Window.ensures.1 ∙ settle_within (with_registers m) _ _ _ _ c.in_err-window-in-Window.ensures)

pub returns-in_ok-window-in-Window : goal.returns-in_ok-window-in-Window
unfolding effect_of answered
returns-in_ok-window-in-Window c =
    let m = machine c.args.regs.now c.args.f.nzvc c.args.area.now in
    rw c.in-Window.is (settle_within (with_registers m) _ _ _ _ c.in_ok-window-in-Window.ensures)
