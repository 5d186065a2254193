use Rattle.windows.proofs.Ring.{taken_eights}
use Rattle.windows.proofs.take_up.Goals as goal

pub returns : goal.returns
returns c =
    taken_eights _ _ _ _ c.place.ensures.0 c.place-2.ensures.0 c.place-3.ensures.0 _ _ _ _
    c.copy_eight.ensures c.copy_eight-2.ensures c.copy_eight-3.ensures
