use Rattle.listing.proofs.Lines.{line_goes, line_end}
use Rattle.listing.proofs.Writing.{written_end}
use lib.ListN.{length}
use native.Mathlib.Omega.{arith}
use mathlib.Core.Path.{◌∙◌}
use Prim.Native.Nat.{◌≤◌}
use Rattle.listing.proofs.text.Text.put_line.Goals as goal

pub loop-j-preserved : goal.loop-j-preserved
loop-j-preserved c = let b = c.loop-j in
    let w = c.put_number.ensures.written in
    let s = c.put_bytes.ensures.written in
    let o : b.self.len ≤ length b.self.out.now = omega arith in
    let turn = line_goes c.args.numbers.now b.j c.loop-j-test.true o w s c.separator.ensures b.invariant.3 b.invariant.4 in
    (c.put_bytes.ensures.same_reference ∙ c.put_number.ensures.same_reference ∙ b.invariant.0, s.kept ∙ w.kept ∙ b.invariant.1, omega (arith, w.end, w.fits, s.end), turn.0, turn.1)

pub returns : goal.returns
returns c = let b = c.loop-j in
    let z = line_end c.args.numbers.now b.j c.loop-j-test.false in
    record { same_reference = b.invariant.0; written = written_end _ (rw z at b.invariant.3) (rw z at b.invariant.4) (omega arith) b.invariant.1 }
