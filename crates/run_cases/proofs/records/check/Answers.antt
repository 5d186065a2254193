use Rattle.case_files.proofs.Areas.{is_same}
use Rattle.run_cases.proofs.Runs.{ran_found_lem}
use Rattle.run_cases.specs.Runs.{new_found}
use mathlib.Core.Path.{◌∙◌}
use Rattle.run_cases.proofs.records.check.Goals as goal

pub returns : goal.returns
unfolding new_found
returns c =
    let p = c.of-p.ensures in
    ran_found_lem c.of-p.result.next c.tag.result 1313167171 c.of-p.result.known.now 140 c.of-p.result.after.now c.pijorrel_new_run-r.ensures c.ended_in.ensures (is_same _ _ _ c.eq.ensures) c.one.ensures
    ∙ rw (c.tag.ensures, c.number-4.ensures, c.number-3.ensures, c.number-2.ensures, c.number.ensures, c.copy.ensures, c.over_zeros-state.ensures, p.state, p.places, p.records, p.before, p.known, p.after, p.next)
