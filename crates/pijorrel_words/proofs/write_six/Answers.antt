use mathlib.Core.Path.{ap, ◌∙◌}
use Rattle.words.specs.Writer.{written_of}
use Rattle.pijorrel_words.specs.Forms.{instruction_from}
use Rattle.pijorrel_words.proofs.Laws.{no_form}
use Rattle.pijorrel_words.proofs.write_six.Goals as goal

pub returns-in-2 : goal.returns-in-2
unfolding instruction_from written_of
returns-in-2 c = rw c.in-2.is c.branch_word.ensures

pub returns-in-4 : goal.returns-in-4
unfolding instruction_from written_of
returns-in-4 c = rw c.in-4.is c.sethi_word.ensures

pub returns-in-64 : goal.returns-in-64
unfolding instruction_from written_of
returns-in-64 c = rw c.in-64.is c.call_word.ensures

pub returns-in_default : goal.returns-in_default
returns-in_default c =
    (rw c.operand_from.ensures at c.write_by_op.ensures) ∙ ap written_of (no_form _ _ _ _ _ _ c.in_default.in_default-own.rest)
