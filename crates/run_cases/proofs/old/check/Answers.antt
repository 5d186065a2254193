use Rattle.case_files.proofs.Areas.{is_same}
use Rattle.run_cases.proofs.Runs.{ran_found_lem}
use Rattle.run_cases.specs.Runs.{old_found}
use mathlib.Core.Path.{◌∙◌}
use Rattle.run_cases.proofs.old.check.Goals as goal

pub returns : goal.returns
unfolding old_found
returns c =
    let p = c.parts-p.ensures in
    ran_found_lem c.parts-p.result.next c.tag.result 1330398275 c.parts-p.result.known.now 144 c.parts-p.result.after.now c.pijorrel_old_run-r.ensures c.ended_in.ensures (is_same _ _ _ c.eq.ensures) c.one.ensures
    ∙ rw (c.tag.ensures, c.number-3.ensures, c.number-2.ensures, c.number.ensures, c.copy.ensures, c.over_zeros-state.ensures, p.state, p.image, p.before, p.known, p.after, p.next)
