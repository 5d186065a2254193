use Rattle.places.specs.Table.{place_in}
use Rattle.walks.proofs.Walking.{handled_outside, handled_held, handled_forbidden, handled_pair}
use mathlib.Core.Path.{sym, ◌∙◌}
use Rattle.walks.proofs.walk.handle.Goals as goal

pub returns-in_default : goal.returns-in_default
unfolding place_in
returns-in_default c = rw (← c.address-p.ensures) (handled_outside _ _ _ _ _ _ c.word.ensures c.in_default.is)

pub returns-then-not-is_held : goal.returns-then-not-is_held
unfolding place_in
returns-then-not-is_held c = rw (← c.address-p.ensures, ← c.next.ensures) (handled_pair _ _ _ _ _ _ c.word.ensures c.in-Some.is c.read_flow-flow.ensures c.is_held.ensures c.if-not-is_held.true c.add_names.ensures)

pub returns-then-may_be_held : goal.returns-then-may_be_held
unfolding place_in
returns-then-may_be_held c = rw (← c.address-p.ensures) (handled_held _ _ _ _ _ _ c.word.ensures c.in-Some.is c.read_flow-flow.ensures c.is_held.ensures c.if-not-is_held.false (sym c.may_be_held.ensures ∙ c.if-may_be_held.true))

pub returns-else-may_be_held : goal.returns-else-may_be_held
unfolding place_in
returns-else-may_be_held c = rw (← c.address-p.ensures) (handled_forbidden _ _ _ _ _ _ c.word.ensures c.in-Some.is c.read_flow-flow.ensures c.is_held.ensures c.if-not-is_held.false (sym c.may_be_held.ensures ∙ c.if-may_be_held.false))
