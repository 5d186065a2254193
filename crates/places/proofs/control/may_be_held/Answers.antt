use Rattle.model.specs.Places.{may_be_held}
use Rattle.places.specs.Control.{transferred}
use Rattle.model.proofs.Transfers.{annuls}
use Rattle.places.proofs.Flows.{idle}
use mathlib.Core.Logic.{inl, inr}
use mathlib.Core.Path.{sym, ◌∙◌, ap}
use mathlib.Core.Bool.{not}
use Rattle.places.proofs.control.may_be_held.Goals as goal

pub returns-in-Faults : goal.returns-in-Faults
unfolding may_be_held transferred
returns-in-Faults c = elim c.in-Faults.is [ inl e ↦ rw e | inr d ↦ elim d [ inl e ↦ rw e | inr e ↦ rw e ] ]

pub returns-in-Calls : goal.returns-in-Calls
unfolding may_be_held transferred
returns-in-Calls c = elim c.in-Calls.is [ inl w ↦ rw w.1 | inr w ↦ rw w.1 ]

pub returns-then-not-annul : goal.returns-then-not-annul
unfolding may_be_held transferred
returns-then-not-annul c = rw c.in-Branches.is (idle _ _ c.if-not-annul.true)

pub returns-else-not-annul : goal.returns-else-not-annul
unfolding may_be_held transferred
returns-else-not-annul c = rw c.in-Branches.is (ap not c.if-not-annul.false ∙ sym (annuls _ _ c.if-not-annul.false))
