use Rattle.model.specs.Records.{numbers_in}
use Rattle.places.proofs.Lending.{kept_trans}
use Rattle.walks.proofs.Walking.{start_on, start_off, start_end}
use Rattle.walks.specs.Walk.{seen}
use Rattle.std.proofs.lemmas.Result.{err_from_is_err_and}
use mathlib.Core.Path.{◌∙◌}
use Rattle.walks.proofs.walk.start.Goals as goal

pub returns-in_err-add_plain : goal.returns-in_err-add_plain
unfolding numbers_in
returns-in_err-add_plain c = let p = err_from_is_err_and c.from_residual.result c.from_residual.ensures.1 in
    rw (p.1, p.2) (start_off c.loop-j.invariant.kept _ _ _ _ c.loop-j-test.true c.read_number.ensures c.loop-j.invariant.rest _ c.in_err-add_plain.ensures)

pub loop-j-preserved : goal.loop-j-preserved
unfolding numbers_in
loop-j-preserved c = let i = c.loop-j.invariant in
    record {
      kept = kept_trans i.kept c.in_ok-add_plain.ensures.kept;
      rest = start_on i.kept _ _ _ _ c.loop-j-test.true c.read_number.ensures i.rest c.in_ok-add_plain.ensures;
    }

pub returns : goal.returns
unfolding seen numbers_in
returns c = let i = c.loop-j.invariant in record { reads = start_end _ _ _ _ _ c.loop-j-test.false ∙ i.rest; kept = i.kept }
