use Rattle.std.proofs.Common.{◌∙◌, arith}
use Rattle.numbers.proofs.Number.{sign_weight}
use Rattle.writer.proofs.Fields.{put_low, put_high_lem, put_none}
use Rattle.writer.proofs.put_signed.Goals as goal
use Rattle.writer.proofs.put_signed.Goals.{then-v-half-via-then-v-half, then-v-half-via-else-v-half+then-half-v}

pub overflow_add-half : goal.overflow_add-half
overflow_add-half c = let s = sign_weight c.args.width c.requires.0 c.requires.1 in rw s.0 (record { fits = omega arith })

pub returns-then-v-half : goal.returns-then-v-half
returns-then-v-half c =
    let s = sign_weight c.args.width c.requires.0 c.requires.1 in
    c.put_field.ensures
    ∙ elim c.then-v-half.branch [
      | then-v-half-via-then-v-half w ↦ put_low _ _ _ _ s.0 (rw s.0 s.1) (rw (s.0, s.1) s.2) w.if-v-half.true
      | then-v-half-via-else-v-half+then-half-v w ↦ put_high_lem _ _ _ _ s.0 (rw s.0 s.1) (rw (s.0, s.1) (omega arith)) w.if-v-half.false w.if-half-v.true (omega arith)
    ]

pub returns : goal.returns
returns c =
    let s = sign_weight c.args.width c.requires.0 c.requires.1 in
    put_none c.args.word _ _ _ s.0 (rw s.0 s.1) (rw (s.0, s.1) s.2) c.if-v-half.false c.if-half-v.false
