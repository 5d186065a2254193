use Rattle.model.specs.Places.{return_names}
use Rattle.walks.proofs.Walking.{grown_on, grown_end}
use Rattle.std.proofs.lemmas.Result.{err_from_is_err_and}
use Rattle.walks.proofs.worklist.add_returns.Goals as goal

pub returns-in_err-add_plain : goal.returns-in_err-add_plain
unfolding return_names
returns-in_err-add_plain c = let p = err_from_is_err_and c.from_residual.result c.from_residual.ensures.1 in
    rw (p.1, p.2, ← c.further.ensures) (grown_end _ _ _ c.in_err-add_plain.ensures)

pub returns-in_err-add_plain-2 : goal.returns-in_err-add_plain-2
unfolding return_names
returns-in_err-add_plain-2 c = let p = err_from_is_err_and c.from_residual-in_err-add_plain-2.result c.from_residual-in_err-add_plain-2.ensures.1 in
    rw (p.1, p.2, ← c.unimp_behind.ensures, c.if-unimp_behind.true, ← c.further.ensures, ← c.further-then-unimp_behind.ensures) (grown_on _ _ c.in_ok-add_plain.ensures c.in_err-add_plain-2.ensures)

pub returns-in_ok-add_plain-2 : goal.returns-in_ok-add_plain-2
unfolding return_names
returns-in_ok-add_plain-2 c = rw (← c.unimp_behind.ensures, c.if-unimp_behind.true, ← c.further.ensures, ← c.further-then-unimp_behind.ensures) (grown_on _ _ c.in_ok-add_plain.ensures c.in_ok-add_plain-2.ensures)

pub returns-else-unimp_behind : goal.returns-else-unimp_behind
unfolding return_names
returns-else-unimp_behind c = rw (← c.unimp_behind.ensures, c.if-unimp_behind.false, ← c.further.ensures) c.in_ok-add_plain.ensures
