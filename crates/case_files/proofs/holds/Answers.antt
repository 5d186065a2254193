use Rattle.case_files.proofs.Areas.{held_rest, held_other}
use Rattle.case_files.proofs.holds.Goals as goal

pub returns-in-Some : goal.returns-in-Some
returns-in-Some c = let h = c.in-Some.ensures.cases in rw c.all_are.ensures (held_rest _ _ _ _ h.0 h.1)

pub returns-in-None : goal.returns-in-None
returns-in-None c = held_other _ _ _ c.in-None.ensures.cases
