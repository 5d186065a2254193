use Rattle.case_files.proofs.Areas.{is_same}
use Rattle.run_cases.proofs.Trails.{trail_found_lem}
use Rattle.run_cases.specs.Trails.{trail_found}
use mathlib.Core.Path.{◌∙◌}
use Rattle.run_cases.proofs.trail.check.Goals as goal

pub returns : goal.returns
unfolding trail_found
returns c =
    let p = c.parts-p.ensures in
    trail_found_lem c.parts-p.result.next c.tag.result c.number-count.result c.parts-p.result.after.now c.follow-entries.ensures (is_same _ _ _ c.eq.ensures)
    ∙ rw (c.tag.ensures, c.number-2.ensures, c.number.ensures, c.copy.ensures, c.over_zeros-state.ensures, p.state, p.image, p.before, p.known, p.after, p.next, c.number-count.ensures)
