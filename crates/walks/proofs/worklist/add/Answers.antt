use Rattle.places.proofs.Chains.{found_member}
use Rattle.std.specs.Prelude.{is_some}
use Rattle.walks.proofs.Walking.{add_present, add_full, add_new}
use native.Mathlib.Omega.{arith}
use mathlib.Core.Path.{sym, ap, ◌∙◌}
use Rattle.walks.proofs.worklist.add.Goals as goal

pub returns-then-is_some : goal.returns-then-is_some
returns-then-is_some c = add_present _ _ (sym (found_member _ _) ∙ sym (ap is_some c.find.ensures) ∙ sym c.is_some.ensures ∙ c.if-is_some.true)

pub returns-then-len-table : goal.returns-then-len-table
returns-then-len-table c = rw c.address_of.ensures (add_full _ _ (sym (found_member _ _) ∙ sym (ap is_some c.find.ensures) ∙ sym c.is_some.ensures ∙ c.if-is_some.false) (omega arith))

pub push-requires : goal.push-requires
push-requires c = (omega arith, sym (found_member _ _) ∙ sym (ap is_some c.find.ensures) ∙ sym c.is_some.ensures ∙ c.if-is_some.false)

pub returns : goal.returns
returns c = add_new _ _ (sym (found_member _ _) ∙ sym (ap is_some c.find.ensures) ∙ sym c.is_some.ensures ∙ c.if-is_some.false) (omega arith) c.push.ensures.places c.push.ensures.kept
