use Rattle.numbers.proofs.Choice.{either}
use Rattle.model.specs.declared.Place.{Place}
use Rattle.model.specs.Records.{Group, group_of, held_group_of}
use Rattle.places.specs.Control.{transferred}
use Rattle.groups.specs.Layout.{size}
use mathlib.Core.Logic.{inl, inr}
use mathlib.Core.Path.{◌≡◌, refl}
use Rattle.groups.proofs.layout.word_size.Goals as goal

pub returns-in-Faults : goal.returns-in-Faults
unfolding size held_group_of group_of transferred
returns-in-Faults c = λ word p n. rw c.in-Faults.is (either (λ (g : Group Place). 1 ≡ size g) c.args.held _ _ refl refl)

pub returns-in-Traps : goal.returns-in-Traps
unfolding size held_group_of group_of transferred
returns-in-Traps c = λ word p n. rw c.in-Traps.is (either (λ (g : Group Place). 1 ≡ size g) c.args.held _ _ refl refl)

pub returns-in-Continues : goal.returns-in-Continues
unfolding size held_group_of group_of transferred
returns-in-Continues c = λ word p n. elim c.in-Continues.is [
  | inl e ↦ rw e (either (λ (g : Group Place). 2 ≡ size g) c.args.held _ _ refl refl)
  | inr d ↦ elim d [
    | inl w ↦ rw w.1 (either (λ (g : Group Place). 2 ≡ size g) c.args.held _ _ refl refl)
    | inr w ↦ rw w.1 (either (λ (g : Group Place). 2 ≡ size g) c.args.held _ _ refl refl)
  ]
]

pub returns-then-held : goal.returns-then-held
unfolding size held_group_of group_of transferred
returns-then-held c = λ word p n. rw (c.in-Branches.is, c.if-held.true)

pub returns-else-held : goal.returns-else-held
unfolding group_of transferred
returns-else-held c = λ word p n. rw (c.in-Branches.is, c.if-held.false) (c.branch_size.ensures _ _ _)
