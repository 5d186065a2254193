use Rattle.places.specs.Index.{link_of}
use Rattle.places.proofs.Chains.{Seeking}
use Rattle.places.proofs.table.Rows.find.Given as goal

abbrev pub invariant-loop-next : goal.invariant-loop-next
invariant-loop-next l = Seeking l.x l.self.places.now l.self.count (link_of l.next)

abbrev pub decreases-loop-next : goal.decreases-loop-next
decreases-loop-next l = link_of l.next
