use Rattle.cases.proofs.Verdicts.{ran_by}
use Rattle.case_files.proofs.Areas.{start_length}
use Rattle.cases.specs.Kinds.{ran_in}
use mathlib.Core.Path.{◌∙◌}
use Rattle.cases.proofs.check_run.Goals as goal

pub slice_bounds-area-end : goal.slice_bounds-area-end
slice_bounds-area-end c = start_length _ 65552 0 c.filled-zeros.ensures c.min-n.ensures

pub returns-in-Old : goal.returns-in-Old
unfolding ran_in
returns-in-Old c = ran_by _ _ _ _ _ c.filled-zeros.ensures c.min-n.ensures c.data_size.ensures (c.check.ensures ∙ rw c.in-Old.is)

pub returns-in-New : goal.returns-in-New
unfolding ran_in
returns-in-New c = ran_by _ _ _ _ _ c.filled-zeros.ensures c.min-n.ensures c.data_size.ensures (c.check-in-New.ensures ∙ rw c.in-New.is)

pub returns-in-Trail : goal.returns-in-Trail
unfolding ran_in
returns-in-Trail c = ran_by _ _ _ _ _ c.filled-zeros.ensures c.min-n.ensures c.data_size.ensures (c.check-in-Trail.ensures ∙ rw c.in-Trail.is)
