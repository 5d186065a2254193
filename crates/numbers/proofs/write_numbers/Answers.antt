use Rattle.numbers.proofs.Number.{length_bytes, put_more}
use Rattle.std.proofs.Common.{◌≡◌, length, ◌∙◌, arith}
use lib.Seq.{take-length}
use Rattle.numbers.proofs.write_numbers.Goals as goal

pub loop-i-preserved : goal.loop-i-preserved
loop-i-preserved c = c.write_number.ensures ∙ rw c.loop-i.invariant (put_more _ _ _ _ c.requires c.loop-i-test.true)

pub returns : goal.returns
returns c =
    let e : c.loop-i.i ≡ length c.args.list.now = omega arith in
    c.loop-i.invariant ∙ rw (e, ← length_bytes c.args.list.now, take-length)
