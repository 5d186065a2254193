use Rattle.model.specs.Places.{names}
use Rattle.places.specs.Control.{transferred}
use Rattle.walks.proofs.Walking.{grown_on, grown_end, grown_none}
use Rattle.std.proofs.lemmas.Result.{err_from_is_err_and}
use borrow.Author.Tests.{eq-eqb, ne_eqb}
use mathlib.Core.Logic.{inl, inr}
use Rattle.walks.proofs.worklist.add_names.Goals as goal

pub returns-in-Faults : goal.returns-in-Faults
unfolding names transferred
returns-in-Faults c = elim c.in-Faults.is [ inl e ↦ rw e (grown_none _) | inr e ↦ rw e (grown_none _) ]

pub returns-in-Continues : goal.returns-in-Continues
unfolding names transferred
returns-in-Continues c = rw c.in-Continues.is c.add_plain.ensures

pub returns-in_err-add-in-Calls : goal.returns-in_err-add-in-Calls
unfolding names transferred
returns-in_err-add-in-Calls c = let p = err_from_is_err_and c.from_residual.result c.from_residual.ensures.1 in
    rw (p.1, p.2, c.in-Calls.is, ← c.target.ensures) (grown_end _ _ _ c.in_err-add-in-Calls.ensures)

pub returns-in_ok-add-in-Calls : goal.returns-in_ok-add-in-Calls
unfolding names transferred
returns-in_ok-add-in-Calls c = rw (c.in-Calls.is, ← c.target.ensures) (grown_on _ _ c.in_ok-add-in-Calls.ensures c.add_returns.ensures)

pub returns-in-Branches : goal.returns-in-Branches
unfolding names transferred
returns-in-Branches c = rw (c.in-Branches.is, ← c.target-in-Branches.ensures) c.add_branch.ensures

pub returns-in_err-add-in-Jumps : goal.returns-in_err-add-in-Jumps
unfolding names transferred
returns-in_err-add-in-Jumps c = let p = err_from_is_err_and c.from_residual-in_err-add-in-Jumps.result c.from_residual-in_err-add-in-Jumps.ensures.1 in
    rw (p.1, p.2, c.in-Jumps.is) (grown_end _ _ _ c.in_err-add-in-Jumps.ensures)

pub returns-in_err-add_returns-in-Jumps : goal.returns-in_err-add_returns-in-Jumps
unfolding names transferred
returns-in_err-add_returns-in-Jumps c = let p = err_from_is_err_and c.from_residual-in_err-add_returns-in-Jumps.result c.from_residual-in_err-add_returns-in-Jumps.ensures.1 in
    rw (p.1, p.2, c.in-Jumps.is, ne_eqb _ _ c.if-rd-ne0.true) (grown_on _ _ c.in_ok-add-in-Jumps.ensures c.in_err-add_returns-in-Jumps.ensures)

pub returns-in_ok-add_returns-in-Jumps : goal.returns-in_ok-add_returns-in-Jumps
unfolding names transferred
returns-in_ok-add_returns-in-Jumps c = rw (c.in-Jumps.is, ne_eqb _ _ c.if-rd-ne0.true) (grown_on _ _ c.in_ok-add-in-Jumps.ensures c.in_ok-add_returns-in-Jumps.ensures)

pub returns-else-rd-ne0 : goal.returns-else-rd-ne0
unfolding names transferred
returns-else-rd-ne0 c = rw (c.in-Jumps.is, eq-eqb _ _ c.if-rd-ne0.false) c.in_ok-add-in-Jumps.ensures
