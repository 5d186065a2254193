use Rattle.std.proofs.Common.{rules}
use Rattle.words.specs.Writer.{branch_word}
use Rattle.words.proofs.Conditions.{one_bit}
use Rattle.writer.proofs.branch_word.Goals as goal

pub returns-in_err-first : goal.returns-in_err-first
unfolding branch_word
returns-in_err-first c = rw (one_bit c.args.annul c.from.result c.from.ensures) (search rules)

pub returns : goal.returns
unfolding branch_word
returns c = rw (one_bit c.args.annul c.from.result c.from.ensures) (search rules)
