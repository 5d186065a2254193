use Rattle.model.specs.Places.{next_of}
use Rattle.places.proofs.table.next_of.Goals as goal

pub returns-in-Pair : goal.returns-in-Pair
unfolding next_of
returns-in-Pair c = rw c.in-Pair.is

pub returns-in-Held : goal.returns-in-Held
unfolding next_of
returns-in-Held c = rw c.in-Held.is
