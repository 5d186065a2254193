use Rattle.words.proofs.Conditions.{one_bit}
use Rattle.old_core.proofs.Words.{branch_taken, branch_fails}
use mathlib.Core.Path.{sym, ◌∙◌, ◌≡◌}
use mathlib.Core.Bool.{◌&&◌}
use lib.Dec.{eqb}
use Rattle.old_core.proofs.branch.Goals as goal
use Rattle.old_core.proofs.branch.Goals.{then-annul, else-annul}

pub returns-then-holds : goal.returns-then-holds
returns-then-holds c =
    let b : c.if-annul.from ≡ c.args.annul && eqb c.args.cond 8 =
    elim c.if-annul.branch [ then-annul w ↦ rw w.if-annul.true w.from-is | else-annul w ↦ w.from-is ∙ rw w.if-annul.false ] in
    λ rs a. c.advance.ensures rs a
    ∙ rw c.target.ensures (branch_taken _ _ _ _ _ _ _ _ (sym c.holds.ensures ∙ c.if-holds.true) b (sym (one_bit _ _ c.from.ensures)))

pub returns : goal.returns
returns c = λ rs a. c.advance-2.ensures rs a
    ∙ branch_fails _ _ _ _ _ _ _ _ (sym c.holds.ensures ∙ c.if-holds.false) (sym (one_bit _ _ c.from-2.ensures)) c.further.ensures
