use Rattle.std.proofs.Common.{◌∙◌, arith}
use Rattle.numbers.proofs.Number.{sign_weight, extend_by_sum}
use Rattle.numbers.specs.Number.{signed}
use Rattle.numbers.proofs.signed.Goals as goal

pub overflow_add-half : goal.overflow_add-half
overflow_add-half c = let w = sign_weight c.args.bits c.requires.0 c.requires.1 in rw w.0 (record { fits = omega arith })

pub returns : goal.returns
unfolding signed
returns c = let w = sign_weight c.args.bits c.requires.0 c.requires.1 in
    c.subtract.ensures ∙ rw (w.0, ← w.1) (extend_by_sum _ _ (omega arith) (omega arith))
