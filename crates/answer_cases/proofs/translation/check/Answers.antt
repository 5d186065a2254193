use Rattle.case_files.proofs.Areas.{start_length}
use Rattle.answer_cases.proofs.Translations.{found_in}
use mathlib.Core.Path.{◌∙◌, sym}
use Rattle.answer_cases.proofs.translation.check.Goals as goal

pub returns : goal.returns
returns c = found_in _ _ _ _ (sym (start_length _ 131104 165 c.filled-table.ensures c.min-n.ensures) ∙ c.min-n.ensures) c.number.ensures (sym (start_length _ 196608 90 c.filled-list.ensures c.min-m.ensures) ∙ c.min-m.ensures) c.number-2.ensures c.check_in.ensures
