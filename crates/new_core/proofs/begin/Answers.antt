use Rattle.machine.specs.Ends.{standing_of}
use Rattle.model.specs.Run.{zeroed}
use Rattle.model.specs.NewCore.{begun_at, new_begun}
use Rattle.new_core.specs.Sought.{sought_of}
use Rattle.new_core.proofs.begin.Goals as goal
use Rattle.new_core.proofs.begin.Goals.{in-Some, in-None}

pub returns : goal.returns
unfolding new_begun begun_at sought_of zeroed standing_of
returns c = λ area. elim c.match-search.branch [
  | in-Some w ↦ rw (← c.search.ensures, w.in-Some.is, w.end-is)
  | in-None w ↦ rw (← c.search.ensures, w.in-None.is, w.end-is, w.lost.ensures)
]
