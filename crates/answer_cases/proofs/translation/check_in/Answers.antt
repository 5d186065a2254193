use Rattle.answer_cases.proofs.Translations.{found_back}
use Rattle.answer_cases.specs.Translations.{back_found, back_agrees}
use Rattle.answer_cases.proofs.translation.check_in.Goals as goal

pub returns : goal.returns
unfolding back_found back_agrees
returns c =
    let p = c.of-p.ensures in
    found_back _ _ _ _ _ _ _ p.image c.number-3.ensures p.entries c.pijorrel_translate-r.ensures
    (rw (c.one.ensures, c.holds-2.ensures, c.holds.ensures, c.answers.ensures, c.tag.ensures, p.records, p.places, p.next, c.part-known.ensures, c.number-2.ensures, c.number.ensures))
