use Rattle.places.proofs.Rows.{places_placed}
use Rattle.places.proofs.Chains.{ready_put}
use Rattle.places.specs.Lent.{listed}
use native.Mathlib.Omega.{arith}
use Rattle.places.proofs.table.Table.push.Goals as goal

pub invariant_of-self : goal.invariant_of-self
unfolding listed
invariant_of-self c = record { ready = rw (c.write_row.ensures.put, c.len-i.ensures, c.enter.ensures.count, c.enter.ensures.heads, c.enter.ensures.links) (ready_put _ c.args.self.now.ready c.requires.0 c.write_row.ensures.narrow c.requires.1) }

pub returns-clause-places : goal.returns-clause-places
unfolding listed
returns-clause-places c = rw (c.write_row.ensures.put, c.len-i.ensures, c.enter.ensures.count) (places_placed _ _ _ (omega arith) c.write_row.ensures.narrow)
