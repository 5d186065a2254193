use Rattle.machine.specs.Ends.{left, live}
use Rattle.model.specs.Run.{zeroed, beyond, lent}
use Rattle.model.proofs.Runs.{lent_back}
use Rattle.states.proofs.Ended.{still_going, is_over}
use mathlib.Core.Path.{◌∙◌, sym, ap}
use Rattle.states.proofs.program.run.Goals as goal

pub returns-then-is_some : goal.returns-then-is_some
unfolding zeroed
returns-then-is_some g c = let k = c.args in
    ap (λ x. lent x (beyond k.area.now)) (is_over _ k.count _ _ (sym c.is_some.ensures ∙ c.if-is_some.true))

pub returns : goal.returns
unfolding zeroed
returns g c = let k = c.args in
    let p = g.P.Program in
    rw (still_going (p.whole (zeroed k.regs.now) k.s.control _) k.s.end (sym c.is_some.ensures ∙ c.if-is_some.false))
    (lent_back (p.next k.program.now k.db) k.count (λ a. live (p.whole (zeroed k.regs.now) k.s.control a))
    (λ a. left (p.whole c.steps.new.regs c.steps.result.control a) c.steps.result.end)
    k.area.now
    c.steps.new.area
    _
    c.data_length-n.ensures
    c.steps.auto.area
    c.steps.ensures)
