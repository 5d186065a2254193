use Rattle.old_core.proofs.Words.{annulled, not_annulled, is_set_lem, is_clear}
use mathlib.Core.Path.{sym, ap, ◌∙◌}
use Rattle.machine.specs.Ends.{answered, live, settle}
use Rattle.old_core.proofs.SourceProgram.step.Goals as goal

pub returns-then-c-ne0 : goal.returns-then-c-ne0
unfolding answered
returns-then-c-ne0 c = ap live (c.follow.ensures _ _) ∙ annulled _ _ _ _ _ _ _ (is_set_lem _ c.if-c-ne0.true)

pub returns : goal.returns
returns c = c.fetch.ensures ∙ ap (settle _) (sym (not_annulled _ _ _ _ _ _ _ (is_clear _ c.if-c-ne0.false)))
