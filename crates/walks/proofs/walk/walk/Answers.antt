use Rattle.places.proofs.Lending.{kept_trans}
use Rattle.walks.proofs.Walking.{walk_on, walk_off, walk_end}
use Rattle.walks.specs.Walk.{seen}
use Rattle.std.proofs.lemmas.Result.{err_from_is_err_and}
use native.Mathlib.Omega.{arith}
use mathlib.Core.Path.{◌∙◌}
use Rattle.walks.proofs.walk.walk.Goals as goal

pub returns-in_err-handle : goal.returns-in_err-handle
returns-in_err-handle c = let p = err_from_is_err_and c.from_residual.result c.from_residual.ensures.1 in
    rw (p.1, p.2) (walk_off c.loop-i.invariant.kept _ _ _ (omega arith) c.loop-i.invariant.rest _ c.in_err-handle.ensures)

pub loop-i-preserved : goal.loop-i-preserved
loop-i-preserved c = let i = c.loop-i.invariant in
    record {
      in_range = omega (arith, c.loop-i.table.ready.within, i.kept.room);
      kept = kept_trans i.kept c.in_ok-handle.ensures.kept;
      rest = walk_on i.kept _ _ _ (omega arith) i.rest c.in_ok-handle.ensures;
    }

pub returns : goal.returns
unfolding seen
returns c = let i = c.loop-i.invariant in record { reads = walk_end _ _ _ _ _ (omega arith) i.in_range ∙ i.rest; kept = i.kept }
