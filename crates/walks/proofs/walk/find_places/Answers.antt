use Rattle.walks.proofs.Walking.{places_on, places_off}
use Rattle.std.proofs.lemmas.Result.{err_from_is_err_and}
use Rattle.walks.proofs.walk.find_places.Goals as goal

pub returns-in_err-start : goal.returns-in_err-start
returns-in_err-start c = let p = err_from_is_err_and c.from_residual.result c.from_residual.ensures.1 in
    rw (p.1, p.2) (places_off _ _ _ c.requires _ c.in_err-start.ensures)

pub returns : goal.returns
returns c = places_on _ _ _ c.requires c.in_ok-start.ensures c.walk.ensures
