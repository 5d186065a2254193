use Rattle.model.specs.Places.{unimp_behind}
use Rattle.places.proofs.Flows.{unimp_fetched}
use Rattle.places.proofs.control.unimp_behind.Goals as goal

pub returns : goal.returns
unfolding unimp_behind
returns c = rw (← c.further.ensures) (unimp_fetched _ _ _ _ c.word.ensures c.is_some_and.ensures)
